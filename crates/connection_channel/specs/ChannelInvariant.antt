-- The rule of the channel that hands numbered connections to workers.
use Rattle.std.specs.Prelude.{◌≡◌, ℕ, length, suc, zero, ◌+◌, ◌<◌, ◌≤◌, ◌==◌, if◌then◌else◌, Bool, true, false, List, [], ◌∷◌, ◌++◌, All}
use mathlib.Core.Option.{some}
use lib.ListN.{get_elem?}
use Rattle.connection_channel.specs.declared.channel_protocol.ChannelPassView.{ChannelPassView}
use Rattle.connection_channel.specs.declared.channel_protocol.Message.{Message}
use Rattle.connection_channel.specs.declared.channel_protocol.Message.TheVariants.{Connection, Stop}

abbrev pub pass_view : ℕ → Bool → ℕ → ℕ → List ℕ → ChannelPassView
pass_view parts sends sent stops taken = record { parts = parts; sends = sends; sent = sent; stops = stops; taken = taken }

-- how often x stands in the list
abbrev pub times : ℕ → List ℕ → ℕ
times x [] = 0
times x (y ∷ ys) = (if y == x then 1 else 0) + times x ys

-- how often x is among the numbers below n: once where it is below n
abbrev pub once_below : ℕ → ℕ → ℕ
once_below x zero = 0
once_below x (suc n) = once_below x n + times x (n ∷ [])

abbrev pub AllBelow : ℕ → List ℕ → Type 0
AllBelow n xs = All (λ x. x < n) xs

-- f of each pass, added up
abbrev pub total : (ChannelPassView → ℕ) → List ChannelPassView → ℕ
total f [] = 0
total f (v ∷ vs) = f v + total f vs

-- what a pass knows: it took numbers below low; the one that sends knows how many were sent; one with no part took nothing
abbrev pub Fits : ℕ → ℕ → ℕ → ℕ → ChannelPassView → Type 0
Fits low count seat pass v = AllBelow low v.taken × (v.sends ≡ true → (pass ≡ seat) × (v.sent ≡ count)) × (v.parts ≡ 0 → v.taken ≡ [])

module _ {C : Type 0} where
  abbrev pub message_number : Message C → List ℕ
  message_number (Connection n c) = n ∷ []
  message_number Stop = []

  -- the numbers of all messages, in order
  abbrev pub numbers_of : List (Message C) → List ℕ
  numbers_of [] = []
  numbers_of (m ∷ ms) = message_number m ++ numbers_of ms

  -- the connections in the channel are those from low to below count, in order
  abbrev pub IsInLine : ℕ → List (Message C) → ℕ → Type 0
  IsInLine low [] count = low ≡ count
  IsInLine low (Connection n c ∷ ms) count = (n ≡ low) × IsInLine (suc low) ms count
  IsInLine low (Stop ∷ ms) count = IsInLine low ms count

  -- low were taken, each number below it once, and the others that were sent are in the channel
  abbrev pub IsNumbered : List (Message C) → List ChannelPassView → Type 0
  IsNumbered items views =
      (low : ℕ) × (count : ℕ) × (seat : ℕ)
      × IsInLine low items count
      × (total (λ v. v.parts) views ≡ 1024)
      × ((x : ℕ) → total (λ v. times x v.taken) views ≡ once_below x low)
      × (total (λ v. length v.taken) views ≡ low)
      × ((pass : ℕ) (v : ChannelPassView) → get_elem? views pass ≡ some v → Fits low count seat pass v)

  abbrev pub count_after : ℕ → Message C → ℕ
  count_after n (Connection m c) = suc n
  count_after n Stop = n

  abbrev pub stops_after : ℕ → Message C → ℕ
  stops_after n (Connection m c) = n
  stops_after n Stop = suc n

  abbrev pub after_sending : ChannelPassView → Message C → ChannelPassView
  after_sending v x = pass_view v.parts v.sends (count_after v.sent x) (stops_after v.stops x) v.taken

  abbrev pub after_taking : ChannelPassView → Message C → ChannelPassView
  after_taking v x = pass_view v.parts v.sends v.sent v.stops (v.taken ++ message_number x)

  -- the number that is taken is above all that this pass took before
  abbrev pub IsAboveTaken : ChannelPassView → Message C → Type 0
  IsAboveTaken v x = All (λ n. AllBelow n v.taken) (message_number x)

  -- the sender's pass took no more than were sent
  abbrev pub TakesFew : ChannelPassView → Message C → ChannelPassView → Type 0
  TakesFew v x w = (w ≡ after_taking v x) × IsAboveTaken v x × (v.sends ≡ true → length w.taken ≤ w.sent)

-- the pass took one number more
abbrev pub with_taken : ChannelPassView → ℕ → ChannelPassView
with_taken v n = pass_view v.parts v.sends v.sent v.stops (v.taken ++ n ∷ [])

-- the pass sent one connection more
abbrev pub with_sent : ChannelPassView → ChannelPassView
with_sent v = pass_view v.parts v.sends (suc v.sent) v.stops v.taken

abbrev pub after_send : Bool → ChannelPassView → ChannelPassView
after_send true v = with_sent v
after_send false v = v

-- the pass sent one stop message more
abbrev pub with_stop : ChannelPassView → ChannelPassView
with_stop v = pass_view v.parts v.sends v.sent (suc v.stops) v.taken

abbrev pub after_stop : Bool → ChannelPassView → ChannelPassView
after_stop true v = with_stop v
after_stop false v = v

-- the connection of a number was sent through an open channel, or its number was told
abbrev pub IsHandedOut : Bool → Bool → ℕ → ChannelPassView → List ℕ → ChannelPassView → List ℕ → Type 0
IsHandedOut true is_open n v left w left' = (is_open ≡ true) × (w ≡ with_sent v) × (left' ≡ left)
IsHandedOut false is_open n v left w left' = (w ≡ v) × (left' ≡ left ++ n ∷ [])

-- the pass took in the pass of a worker that had taken xs
abbrev pub with_pass : ChannelPassView → List ℕ → ChannelPassView
with_pass v xs = pass_view (v.parts + 1) v.sends v.sent v.stops (v.taken ++ xs)
