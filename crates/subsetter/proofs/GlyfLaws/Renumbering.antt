-- A composite that was copied, while its components get their new numbers.
use Rattle.std.proofs.Common.{◌≡◌, ℕ, ◌+◌, ◌-◌, ◌≤◌, Bool, true, false, ◌&&◌, cond, List, [], ◌++◌, length, take, drop, Option, Some, refl, sym, ap, ◌∙◌, append_assoc, arith}
use Rattle.std.specs.Int.{w16, to_be_bytes}
use Rattle.std.proofs.lemmas.List.{append-nil, length-append, length-drop, length-take-le, take-append-drop, take-append-le, take-take, drop-drop, take_at, drop_at}
use Rattle.subsetter_base.proofs.ByteLemmas.{range-take_drop}
use Rattle.subsetter.specs.Glyf.BareOutlines.Bare.{requested_flags, requested_tail}
use Rattle.subsetter.specs.Glyf.Parts.{Component, rest_size, has_more, has_instructions, component_at, spelled}
use Rattle.subsetter_base.specs.Indexes.{new_index}
use Rattle.subsetter.proofs.GlyfLaws.Chains.{with_front, written, chain_text, is_component, text_goes_on, text_ends}

-- the last bytes are the components that have their old numbers; what is before them and what these are to become is the whole
pub record IsUnderway (hint : Bool) (order out rest : List ℕ) (total : Option (List ℕ)) : Type 0 where
  pub fits : length rest ≤ length out
  pub following : drop (length out - length rest) out ≡ rest
  pub whole : with_front (take (length out - length rest) out) (chain_text hint order rest) ≡ total

-- a component has its new number, and others come after it
pub record IsRenumbered (hint : Bool) (order out : List ℕ) (at : ℕ) (c : Component) (after_out after : List ℕ) : Type 0 where
  pub fits : length after ≤ length after_out
  pub front : take (length after_out - length after) after_out ≡ take at out ++ spelled (written hint order c)
  pub following : drop (length after_out - length after) after_out ≡ after

abbrev patched : Bool → List ℕ → List ℕ → ℕ → Component → List ℕ
patched hint order out at c = take at out ++ to_be_bytes w16 (requested_flags hint c.flags) ++ to_be_bytes w16 (new_index order c.glyph) ++ drop (at + 4) out

pub is_renumbered : (hint : Bool) (order out rest : List ℕ) (at : ℕ) (c : Component) (after_out after : List ℕ) (total : Option (List ℕ)) → IsUnderway hint order out rest total → at ≡ length out - length rest → component_at rest ≡ Some c → after_out ≡ patched hint order out at c → after ≡ drop (4 + rest_size c.flags) rest → IsRenumbered hint order out at c after_out after
is_renumbered hint order out rest at c after_out after total u place h is e =
    let k = is_component rest c h in
    let size = rest_size c.flags in
    let F = to_be_bytes w16 (requested_flags hint c.flags) in
    let N = to_be_bytes w16 (new_index order c.glyph) in
    let R = c.rest in
    let some : Some (take size (drop 4 rest)) ≡ Some R = sym (range-take_drop rest 4 size k.within) ∙ k.rest_is in
    let part : take size (drop 4 rest) ≡ R = cc in
    let here : drop at out ≡ rest = ap (λ n. drop n out) place ∙ u.following in
    let left : drop (at + 4) out ≡ R ++ after = sym (drop-drop 4 at out) ∙ ap (drop 4) here ∙ sym (take-append-drop size (drop 4 rest)) ∙ ap (λ (l : List ℕ). l ++ drop size (drop 4 rest)) part ∙ ap (λ (l : List ℕ). R ++ l) (drop-drop size 4 rest ∙ sym e) in
    let front = take at out ++ spelled (written hint order c) in
    let whole : after_out ≡ front ++ after = is ∙ ap (λ (l : List ℕ). take at out ++ F ++ N ++ l) left ∙ sym (simp append_assoc) in
    let at_most : at ≤ length out = omega arith in
    let two_f : length F ≡ 2 = refl in
    let two_n : length N ≡ 2 = refl in
    let long : length front ≡ at + (4 + size) = omega (arith, length-append (take at out) (F ++ N ++ R), length-append F (N ++ R), length-append N R, length-take-le at out at_most, k.size, two_f, two_n) in
    let total_long : length after_out ≡ length front + length after = ap length whole ∙ length-append front after in
    let cut : length front ≡ length after_out - length after = omega arith in
    record {
      fits = omega arith;
      front = ap (take (length after_out - length after)) whole ∙ take_at front after (length after_out - length after) cut;
      following = ap (drop (length after_out - length after)) whole ∙ drop_at front after (length after_out - length after) cut;
    }

pub underway_next : (hint : Bool) (order out rest : List ℕ) (at : ℕ) (c : Component) (after_out after : List ℕ) (total : Option (List ℕ)) → IsUnderway hint order out rest total → at ≡ length out - length rest → component_at rest ≡ Some c → after_out ≡ patched hint order out at c → after ≡ drop (4 + rest_size c.flags) rest → has_more c.flags ≡ true → IsUnderway hint order after_out after total
underway_next hint order out rest at c after_out after total u place h is e more =
    let r = is_renumbered hint order out rest at c after_out after total u place h is e in
    record {
      fits = r.fits;
      following = r.following;
      whole = text_goes_on hint order (take at out) rest c (take (length after_out - length after) after_out) after total h more r.front e (ap (λ n. with_front (take n out) (chain_text hint order rest)) place ∙ u.whole);
    }

tail_kept : (hint b : Bool) (whole front after : List ℕ) → whole ≡ front ++ after → cond (hint && b) whole front ≡ front ++ requested_tail hint (cond b after [])
tail_kept true true whole front after h = h
tail_kept true false whole front after h = sym (append-nil front)
tail_kept false true whole front after h = sym (append-nil front)
tail_kept false false whole front after h = sym (append-nil front)

pub underway_ends : (hint : Bool) (order out rest : List ℕ) (at : ℕ) (c : Component) (after_out after cut : List ℕ) (total : Option (List ℕ)) → IsUnderway hint order out rest total → at ≡ length out - length rest → component_at rest ≡ Some c → after_out ≡ patched hint order out at c → after ≡ drop (4 + rest_size c.flags) rest → has_more c.flags ≡ false → cut ≡ cond (hint && has_instructions c.flags) after_out (take (length after_out - length after) after_out) → total ≡ Some cut
underway_ends hint order out rest at c after_out after cut total u place h is e last tail =
    let r = is_renumbered hint order out rest at c after_out after total u place h is e in
    let n = length after_out - length after in
    let split : after_out ≡ take n after_out ++ after = sym (take-append-drop n after_out) ∙ ap (λ (l : List ℕ). take n after_out ++ l) r.following in
    text_ends hint order (take at out) rest c (take n after_out) cut after total h last r.front e (tail ∙ tail_kept hint (has_instructions c.flags) after_out (take n after_out) after split) (ap (λ k. with_front (take k out) (chain_text hint order rest)) place ∙ u.whole)

pub underway_starts : (hint : Bool) (order before outline out rest : List ℕ) → 10 ≤ length outline → out ≡ before ++ outline → rest ≡ drop 10 outline → IsUnderway hint order out rest (with_front (before ++ take 10 outline) (chain_text hint order (drop 10 outline)))
underway_starts hint order before outline out rest le is e =
    let head = take 10 outline in
    let front = before ++ head in
    let whole : out ≡ front ++ rest = is ∙ ap (λ (l : List ℕ). before ++ l) (sym (take-append-drop 10 outline)) ∙ sym (append_assoc before head (drop 10 outline)) ∙ ap (λ (l : List ℕ). front ++ l) (sym e) in
    let long : length out ≡ length front + length rest = ap length whole ∙ length-append front rest in
    let cut : length front ≡ length out - length rest = omega arith in
    record {
      fits = omega arith;
      following = ap (drop (length out - length rest)) whole ∙ drop_at front rest (length out - length rest) cut;
      whole = ap (λ (l : List ℕ). with_front l (chain_text hint order rest)) (ap (take (length out - length rest)) whole ∙ take_at front rest (length out - length rest) cut) ∙ ap (λ (l : List ℕ). with_front front (chain_text hint order l)) e;
    }

-- what was there before stays
pub record IsAfter (before out rest : List ℕ) : Type 0 where
  pub room : length before + length rest ≤ length out
  pub front : take (length before) out ≡ before

pub after_starts : (before outline out rest : List ℕ) → out ≡ before ++ outline → rest ≡ drop 10 outline → IsAfter before out rest
after_starts before outline out rest is e = record {
  room = omega (arith, ap length is, length-append before outline, ap length e, length-drop 10 outline);
  front = ap (take (length before)) is ∙ take_at before outline (length before) refl;
}

pub after_next : (hint : Bool) (before order out rest : List ℕ) (at : ℕ) (c : Component) (after_out after : List ℕ) → IsAfter before out rest → at ≡ length out - length rest → component_at rest ≡ Some c → after_out ≡ patched hint order out at c → after ≡ drop (4 + rest_size c.flags) rest → IsAfter before after_out after
after_next hint before order out rest at c after_out after b place h is e =
    let k = is_component rest c h in
    let F = to_be_bytes w16 (requested_flags hint c.flags) in
    let N = to_be_bytes w16 (new_index order c.glyph) in
    let following = drop (at + 4) out in
    let room = b.room in
    let within = k.within in
    let at_most : at ≤ length out = omega (arith, place) in
    let below : length before ≤ at = omega (arith, place, room) in
    let cut : length (take at out) ≡ at = length-take-le at out at_most in
    let two_f : length F ≡ 2 = refl in
    let two_n : length N ≡ 2 = refl in
    let whole : after_out ≡ take at out ++ (F ++ (N ++ following)) = is ∙ simp append_assoc in
    let long : length after_out ≡ length out = omega (arith, ap length whole, length-append (take at out) (F ++ (N ++ following)), length-append F (N ++ following), length-append N following, cut, two_f, two_n, length-drop (at + 4) out, place, room, within) in
    record {
      room = omega (arith, long, room, ap length e, length-drop (4 + rest_size c.flags) rest);
      front = ap (take (length before)) whole ∙ take-append-le (length before) (take at out) (F ++ (N ++ following)) (omega (arith, cut, below)) ∙ take-take (length before) at out below ∙ b.front;
    }
