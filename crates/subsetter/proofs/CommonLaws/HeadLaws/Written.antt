-- How long the written `head` is.
use Rattle.std.proofs.Common.{◌≡◌, ◌≤◌, ℕ, Bool, List, length, drop, arith}
use Rattle.std.specs.Prelude.{slice_range}
use Rattle.std.proofs.lemmas.List.{length-take, length-drop}
use Rattle.subsetter_sfnt.proofs.Laws.FieldsLaws.HeadLaws.{length-head as length-with}
use Rattle.subsetter.specs.Common.Head.Written.{head_bytes}

pub length-head : (long : Bool) (head : List ℕ) → 52 ≤ length head → length (head_bytes long head) ≡ length head
length-head long head h = length-with long (slice_range head 36 44) head h (omega (arith, length-take 8 (drop 36 head), length-drop 36 head))
