use Rattle.std.proofs.Common.{IfNone, subst}
use Rattle.set_table.specs.TableAndPassViews.{PassView}
use Rattle.set_table.specs.TableAnswers.{HasNoPlace}
use Rattle.place_names.proofs.PlaceLemmas.{joined}
use Rattle.set_table.proofs.table.Table.find.Goals as goal

pub returns-clause-found : goal.returns-clause-found
returns-clause-found g c =
    joined c.find.result _ _ c.find.ensures.found (subst (λ (v : PassView). IfNone c.find.result (HasNoPlace v c.args.key.now)) c.pass.view_is c.find.ensures.none)
