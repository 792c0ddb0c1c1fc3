use Rattle.std.proofs.Common.{◌≡◌, ◌≤◌, ◌*◌, ◌+◌, ◌-◌, true, drop, length, vec_len, vec_capacity}
use Rattle.subsetter.specs.Common.Post.Read.{names_in}
use Rattle.subsetter.specs.Common.Post.Marks.{AreMarks, ArePlaces, place_of, step_of}
use Rattle.subsetter.proofs.common.post.marks.NameList.new.Given as goal

abbrev pub invariant-loop : goal.invariant-loop
invariant-loop l = record {
  at : names_in (drop l.at l.all) ≡ drop (step_of l.is_dense * length l.marks.items) (names_in l.all);
  within : l.at ≤ length l.all;
  marks : AreMarks (step_of l.is_dense) l.all (names_in l.all) l.marks.items;
  room : vec_len l.marks + (l.count - l.counter) ≤ vec_capacity l.marks;
  here : l.is_dense ≡ true → length l.marks.items ≤ length (names_in l.all) → l.at ≡ place_of (names_in l.all) (length l.marks.items);
  places : l.is_dense ≡ true → ArePlaces (names_in l.all) l.marks.items;
}
