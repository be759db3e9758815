-- Bytes that stand at a place of others: the laws that plans are read back by, passed on for those who read sheets back.
-- Each part of a concatenation stands behind the part before it; a number that stands at a place is read there.
-- Assumes nothing.
pub use Rattle.model.proofs.PlanBytes.{At, at_left, at_right, at_head, at_tail, at-cast, at-word, length-16}
