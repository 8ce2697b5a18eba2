use Rattle.std.proofs.Common.{◌≡◌, ◌<◌, ◌-◌, ◌∙◌, ℕ, true, nat_lt, sym, refl, arith, length, true≢false}
use Rattle.std.proofs.lemmas.Bool.Decides.{nat_tests}
use Rattle.sorted_sets.proofs.Staging.{members_same}
use Rattle.sorted_sets.proofs.Outlines.{staged_outline, grown_apart, before_all}
use Rattle.sorted_sets.proofs.set.change_counts.outline_staged.Goals as goal

some_more : (n : ℕ) → 0 < n → nat_lt 0 n ≡ true
some_more n h = grind (arith, nat_tests)

pub returns-then-added-gt0 : goal.returns-then-added-gt0
returns-then-added-gt0 g c =
    let es = c.args.members.now.entries in
    let more : c.args.draft.now.kept < length es = omega (arith, c.len.ensures.len, c.if-added-gt0.true) in
    let yes' : nat_lt 0 (c.len.result - c.args.draft.now.kept) ≡ true = some_more (c.len.result - c.args.draft.now.kept) c.if-added-gt0.true in
    staged_outline es c.args.draft.now.kept c.len.result (c.len.result - c.args.draft.now.kept) (nat_lt 0 (c.len.result - c.args.draft.now.kept)) c.len.ensures.unique c.requires.within c.len.ensures.len refl
    (λ _. grown_apart es c.args.draft.now.kept c.len.ensures.unique more) (λ none. absurd (true≢false (sym yes' ∙ none)))

pub returns-else-added-gt0 : goal.returns-else-added-gt0
returns-else-added-gt0 g c =
    let es = c.args.members.now.entries in
    let all = before_all es c.args.draft.now.kept (omega (arith, c.len.ensures.len, c.if-added-gt0.false, c.requires.within)) in
    staged_outline es c.args.draft.now.kept c.len.result (c.len.result - c.args.draft.now.kept) c.is_moved.result c.len.ensures.unique c.requires.within c.len.ensures.len refl
    (λ moved same. c.is_moved.ensures.moved moved (same ∙ all)) (λ still. members_same es (c.is_moved.ensures.settled still) ∙ sym all)
