use Rattle.std.proofs.Common.{◌∙◌, ap, take}
use Rattle.std.proofs.lemmas.List.{take-take}
use Rattle.short_bytes.proofs.inline.Inline.first.Goals as goal

pub returns : goal.returns
returns c = ap (take c.args.len) c.copy_from_slice.ensures.after ∙ take-take _ _ _ c.requires.within
