-- What other crates cite of these proofs: the orders of bytes and of pairs, worlds after a change, members that are missing, sets and owners that cross threads.
pub use Rattle.sorted_sets.proofs.Bridge.{total, exact, tied}
pub use Rattle.sorted_sets.proofs.Order.{pair_total, is_pair, is_same, is_equal, has_of_pairs, find_marks, whole_empty}
pub use Rattle.sorted_sets.proofs.Worlds.{get_put_set, filled, placed}
pub use Rattle.sorted_sets.proofs.Outlines.{missing_none}
pub use Rattle.sorted_sets.proofs.ThreadCrossing.{set_send, set_sync, owner_send}
