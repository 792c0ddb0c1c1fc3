-- What a subset of a given font is of each font of which the given one is a subset.
use Rattle.std.proofs.Common.{ℕ, ◌≤◌, List, length, Result, Ok, Err, lit≤}
use Rattle.std.specs.Prelude.{IfOk, IfErr}
use Rattle.subsetter_base.specs.Bytes.{IsBytes}
use Rattle.subsetter_base.specs.declared.error.Error.{Error}
use Rattle.subsetter.specs.Limits.{token_limit, depth_limit}
use Rattle.subsetter_sfnt.specs.Read.{as_font}
use Rattle.subsetter.specs.Subset.{IsSubset}
use Rattle.cid_embed.specs.Shrink.{IsShrunk, IsGivenBack, HasNoFaultForAll, HasFaultForUnknown}
use Rattle.cid_embed.proofs.AgainLaws.Joined as joined

-- a fact of each answer
pub for_ok : {X : Type 0} (r : Result X Error) (P Q : X → Type 0) → ((x : X) → P x → Q x) → IfOk r P → IfOk r Q
for_ok (Ok x) P Q f h = f x h
for_ok (Err e) P Q f h = tt

pub for_err : {X : Type 0} (r : Result X Error) (P Q : Error → Type 0) → ((e : Error) → P e → Q e) → IfErr r P → IfErr r Q
for_err (Ok x) P Q f h = tt
for_err (Err e) P Q f h = f e h

pub is_shrunk : (given more again : List ℕ) → 1 ≤ length more → IsSubset token_limit depth_limit (as_font given) more again → IsShrunk given more again
is_shrunk given more again some second = record {
  subset = second;
  keeps = λ source glyphs bytes first. joined.composes_afresh token_limit depth_limit source glyphs given more again bytes (lit≤ tt) some first second;
  whole = λ source glyphs bytes first settled. joined.is_composed token_limit depth_limit source glyphs given more again bytes (lit≤ tt) some settled first second;
}

pub is_given_back : (given more again : List ℕ) → 1 ≤ length more → IsSubset token_limit depth_limit (as_font given) more again → IsGivenBack given more again
is_given_back given more again some second = record {
  bytes = λ source glyphs bytes first all settled. joined.is_canonical token_limit depth_limit source glyphs given more again bytes (lit≤ tt) some settled first all second;
  charstrings = λ source glyphs bytes first all kind. joined.keeps_all_charstrings token_limit depth_limit source glyphs given more again kind first all second;
}

pub no_fault_for_all : (given more : List ℕ) → IsBytes given → 1 ≤ length more → HasNoFaultForAll given more
no_fault_for_all given more given_bytes some = λ source glyphs bytes first all settled order e fault. joined.no_fault_again token_limit depth_limit source glyphs given more order e bytes given_bytes (lit≤ tt) some settled first all fault

pub fault_for_unknown : (given more : List ℕ) → HasFaultForUnknown given more
fault_for_unknown given more = λ source glyphs bytes first g order among past. joined.unknown_is_fault token_limit depth_limit source glyphs given more order g first among past
