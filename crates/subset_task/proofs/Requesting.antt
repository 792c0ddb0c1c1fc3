-- The requests of glyphs, one after another.
use Rattle.std.proofs.Common.{◌≡◌, ◌⊎◌, ℕ, suc, ◌+◌, ◌-◌, ◌<◌, ◌≤◌, List, [], ◌∷◌, ◌++◌, take, drop, length, get_or, Option, Some, None, Result, Ok, Err, refl, sym, ap, subst, ◌∙◌, append_assoc, arith}
use Rattle.std.specs.Prelude.{IsSome, slice_get}
use Rattle.std.proofs.Math.Seq.{take-suc}
use Rattle.std.proofs.lemmas.List.{take_all, take_rest}
use Rattle.std.specs.Option.{option_and_then}
use Rattle.subsetter_base.specs.declared.error.Error.TheVariants.{OutOfMemory}
use Rattle.subsetter_sfnt.specs.Read.{Font}
use Rattle.subset_args.specs.declared.jobs.command.Glyphs.{Glyphs}
use Rattle.subset_args.specs.declared.listing.lists.GlyphList.{GlyphList}
use Rattle.subset_task.specs.Chosen.{IsListFor, AreListsFor, IsUnlistedAt, IsUnlisted, in_file}
use Rattle.subset_task.specs.Files.{list_name, file_at}
use Rattle.subset_task.specs.Making.Picked.{Picked, nothing, both}
use Rattle.subset_task.specs.Making.Requested.{following, with_rest, picked_of, picked_each}
use Rattle.subset_task.specs.declared.refusals.failure.Failure.{Failure}
use Rattle.subset_task.specs.declared.refusals.failure.Failure.TheVariants.{Error}
use Rattle.subset_task.specs.declared.task.RequestedGlyphs.{RequestedGlyphs}

-- ---- the glyphs of each

pub after_nothing : (r : Result Picked Failure) → following nothing r ≡ r
after_nothing (Ok picked) = refl
after_nothing (Err e) = refl

both_after : (a b c : Picked) → both (both a b) c ≡ both a (both b c)
both_after a b c = rw (append_assoc a.glyphs b.glyphs c.glyphs, append_assoc a.characters b.characters c.characters, append_assoc a.text b.text c.text, append_assoc a.lengths b.lengths c.lengths, append_assoc a.missing b.missing c.missing) refl

after_both : (a b : Picked) (r : Result Picked Failure) → following (both a b) r ≡ following a (following b r)
after_both a b (Ok c) = ap Ok (both_after a b c)
after_both a b (Err e) = refl

-- what is left to pick, after one more request
pub after_one : (font : Font) (old new more : Picked) (one : RequestedGlyphs) (rest : List RequestedGlyphs) (total : Result Picked Failure) → new ≡ both old more → picked_of font one ≡ Ok more → following old (picked_each font (one ∷ rest)) ≡ total → following new (picked_each font rest) ≡ total
after_one font old new more one rest total n h t =
    ap (λ (p : Picked). following p (picked_each font rest)) n
    ∙ (after_both old more (picked_each font rest)
    ∙ (ap (λ (r : Result Picked Failure). following old (with_rest r (picked_each font rest))) (sym h) ∙ t))

pub pick_step : (font : Font) (old new more : Picked) (rest : List RequestedGlyphs) (other : RequestedGlyphs) (total : Result Picked Failure) → 1 ≤ length rest → new ≡ both old more → picked_of font (get_or rest 0 other) ≡ Ok more → following old (picked_each font rest) ≡ total → following new (picked_each font (take (length rest - 1) (drop 1 rest))) ≡ total
pick_step font old new more [] other total some n h t = absurd (omega arith)
pick_step font old new more (one ∷ rest) other total some n h t = subst (λ (left : List RequestedGlyphs). following new (picked_each font left) ≡ total) (sym (take_rest (one ∷ rest) 1)) (after_one font old new more one rest total n h t)

-- one that has none leaves none
pub failed_at : (font : Font) (old : Picked) (one : RequestedGlyphs) (rest : List RequestedGlyphs) (e : Failure) (total : Result Picked Failure) → picked_of font one ≡ Err e → following old (picked_each font (one ∷ rest)) ≡ total → total ≡ Err e
failed_at font old one rest e total h t = sym t ∙ ap (λ (r : Result Picked Failure). following old (with_rest r (picked_each font rest))) h

-- ---- the lists of files

list_after : (glyphs : List Glyphs) (lists : List (Option GlyphList)) (one : Glyphs) (list : Option GlyphList) → AreListsFor glyphs lists → IsListFor one list → AreListsFor (glyphs ++ one ∷ []) (lists ++ list ∷ [])
list_after [] [] one list h i = (i, tt)
list_after [] (l ∷ lists) one list h i = elim h [ ]
list_after (g ∷ glyphs) [] one list h i = elim h [ ]
list_after (g ∷ glyphs) (l ∷ lists) one list h i = (h.0, list_after glyphs lists one list h.1 i)

take_one_more : (glyphs : List Glyphs) (i : ℕ) (d : Glyphs) → i < length glyphs → take (i + 1) glyphs ≡ take i glyphs ++ get_or glyphs i d ∷ []
take_one_more glyphs i d h =
    let next : suc i ≡ i + 1 = omega arith in
    ap (λ (k : ℕ). take k glyphs) (sym next) ∙ take-suc glyphs i d h

pub one_more_list : (glyphs : List Glyphs) (i : ℕ) (d : Glyphs) (old new : List (Option GlyphList)) (list : Option GlyphList) → i < length glyphs → new ≡ old ++ list ∷ [] → AreListsFor (take i glyphs) old → IsListFor (get_or glyphs i d) list → AreListsFor (take (i + 1) glyphs) new
one_more_list glyphs i d old new list lt n h is = subst (λ (gs : List Glyphs). AreListsFor gs new) (sym (take_one_more glyphs i d lt)) (subst (λ (ls : List (Option GlyphList)). AreListsFor (take i glyphs ++ get_or glyphs i d ∷ []) ls) (sym n) (list_after (take i glyphs) old (get_or glyphs i d) list h is))

pub unlisted_get : (glyphs : List Glyphs) (i : ℕ) (one : Glyphs) (e : Failure) → slice_get glyphs i ≡ Some one → IsUnlistedAt i e × IsSome (list_name one) → IsUnlisted glyphs e
unlisted_get glyphs i one e is h = in_file i h.0 (subst (λ (o : Option Glyphs). IsSome (option_and_then list_name o)) (sym is) h.1)

-- after the last of them
pub all_lists : (glyphs : List Glyphs) (i : ℕ) (lists : List (Option GlyphList)) → ¬ (i < length glyphs) → AreListsFor (take i glyphs) lists → AreListsFor glyphs lists
all_lists glyphs i lists end h =
    let most : length glyphs ≤ i = omega arith in
    subst (λ (gs : List Glyphs). AreListsFor gs lists) (take_all i glyphs most) h
