-- An embedded font with some of its CIDs.
use Rattle.std.proofs.Common.{◌≡◌, ℕ, ◌≤◌, ◌⊎◌, inl, inr, ◌<◌, ◌^◌, true, ◌||◌, eqb, List, [], ◌∷◌, length, ap, ◌∙◌, arith}
use Rattle.std.specs.Prelude.{Contains, is_some}
use Rattle.std.proofs.Math.Bool.{or-true}
use Rattle.std.proofs.lemmas.List.{get_or_default}
use Rattle.subsetter_base.specs.Bytes.{IsBytes}
use Rattle.subsetter_base.specs.Indexes.{index_of}
use Rattle.subsetter_base.specs.declared.error.Error.{Error}
use Rattle.subsetter_base.specs.declared.error.Error.TheVariants.{MalformedFont, OutOfMemory}
use Rattle.subsetter_base.proofs.GlyphLemmas.{known-all, Contains-index, index-finds, room_left_for_zero}
use Rattle.subsetter_base.proofs.Options.{some_of}
use Rattle.subsetter_cff.specs.Write.Again.{AreAll}
use Rattle.subsetter.specs.Fault.{HasFault}
use Rattle.subsetter.specs.Limits.{token_limit, depth_limit}
use Rattle.subsetter_sfnt.specs.Read.{as_font}
use Rattle.cid_embed.specs.Again.{IsTrueTypeOrCidKeyed}
use Rattle.cid_embed.specs.Shrink.{OfEachSource}
use Rattle.cid_embed.proofs.AgainLaws.Shrunk.{no_fault_for_all, fault_for_unknown}
use Rattle.cid_embed.specs.Embed as faults
use Rattle.cid_embed.specs.Embed.{numbering, HasEmbedFault}
use Rattle.cid_embed.specs.Width.{HasWidthFault}

some_known : (xs : List ℕ) (q : ℕ) → is_some (index_of xs q) ≡ true → 1 ≤ length xs
some_known [] q h = absurd cc
some_known (x ∷ xs) q h = omega arith

-- glyph 0 is always there
pub some_numbered : (cids : List ℕ) → 1 ≤ length (numbering cids)
some_numbered cids = some_known (numbering cids) 0 (known-all cids 0)

-- each asked CID is there
numbered : (cids : List ℕ) (cid : ℕ) → Contains cids cid → Contains (numbering cids) cid
numbered cids cid c =
    let at = some_of (index_of (numbering cids) cid) (known-all cids cid ∙ ap (λ b. eqb 0 cid || b) (Contains-index cids cid c) ∙ or-true (eqb 0 cid)) in
    let found = index-finds (numbering cids) cid at.0 at.1 in
    (at.0, found.0, get_or_default (numbering cids) at.0 cid 0 found.0 ∙ found.1)

-- one that the font doesn't have is a fault
pub unknown_cid : (given cids : List ℕ) → OfEachSource given (λ source first. (cid : ℕ) (order : List ℕ) → Contains cids cid → length first ≤ cid → HasEmbedFault token_limit depth_limit (as_font given) cids order MalformedFont)
unknown_cid given cids = λ source glyphs bytes first cid order among past. faults.in_subset (fault_for_unknown given (numbering cids) source glyphs bytes first cid order (numbered cids cid among) past)

-- all CIDs in order are refused for want of memory or of widths alone
pub only_widths : (given cids : List ℕ) (why : Error) → IsBytes given → (why ≡ OutOfMemory) ⊎ ((order : List ℕ) × HasEmbedFault token_limit depth_limit (as_font given) cids order why)
    → OfEachSource given (λ source first. AreAll (length first) (numbering cids) → IsTrueTypeOrCidKeyed source → (why ≡ OutOfMemory) ⊎ HasWidthFault (as_font given) why)
only_widths given cids why fit (inl memory) = λ source glyphs bytes first all settled. inl memory
only_widths given cids why fit (inr found) = λ source glyphs bytes first all settled.
    by (length first.keeps.order) first.keeps.few all (no_fault_for_all given (numbering cids) fit (some_numbered cids) source glyphs bytes first all settled) why found.0 found.1
  where
    by : (n : ℕ) → n < 2 ^ 16 → AreAll n (numbering cids) → ((order : List ℕ) (e : Error) → HasFault token_limit depth_limit (as_font given) (numbering cids) order e → ⊥) → (e : Error) (order : List ℕ) → HasEmbedFault token_limit depth_limit (as_font given) cids order e → (e ≡ OutOfMemory) ⊎ HasWidthFault (as_font given) e
    by n few all none _ order (faults.in_numbering full) = absurd (room_left_for_zero cids (omega (arith, few, all.count)) full)
    by n few all none e order (faults.in_subset f) = absurd (none order e f)
    by n few all none e order (faults.in_widths f) = inr f
