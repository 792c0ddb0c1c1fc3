use Rattle.std.proofs.Common.{◌≡◌, ℕ, ◌≤◌, ◌⊎◌, inl, inr, List, [], ◌∷◌, length, None, Some, arith}
use Rattle.std.specs.Prelude.{slice_get}
use Rattle.subsetter_base.specs.Bytes.{IsBytes}
use Rattle.subsetter_base.specs.declared.error.Error.{Error}
use Rattle.subsetter_base.specs.declared.error.Error.TheVariants.{OutOfMemory}
use Rattle.subsetter_cff.specs.Write.Again.{AreAll}
use Rattle.subsetter.specs.Answer.{IsAnswer}
use Rattle.subsetter.specs.Bound.{HasFaultWithin}
use Rattle.subsetter.specs.Fault.{HasFault}
use Rattle.subsetter.proofs.NoBound.{without_bound}
use Rattle.subsetter.specs.Limits.{token_limit, depth_limit}
use Rattle.subsetter_sfnt.specs.Read.{Font, as_font}
use Rattle.cid_embed.specs.Again.{IsTrueTypeOrCidKeyed}
use Rattle.cid_embed.specs.Shrink.{OfEachSource, IsShrunk, IsGivenBack}
use Rattle.cid_embed.proofs.AgainLaws.Shrunk.{for_ok, for_err, is_shrunk, is_given_back, no_fault_for_all, fault_for_unknown}
use Rattle.cid_embed.proofs.shrinking.shrink_font.Goals as goal

some_given : (glyphs : List ℕ) → slice_get glyphs 0 ≡ Some 0 → 1 ≤ length glyphs
some_given [] h = absurd cc
some_given (g ∷ gs) h = omega arith

-- there is no fault, so memory ran out
no_other : (font : Font) (all : List ℕ) (e : Error) → ((order : List ℕ) → HasFault token_limit depth_limit font all order e → ⊥) → (e ≡ OutOfMemory) ⊎ ((order : List ℕ) × HasFaultWithin None token_limit depth_limit font all order e) → e ≡ OutOfMemory
no_other font all e none (inl m) = m
no_other font all e none (inr f) = absurd (none f.0 ((without_bound token_limit depth_limit font all f.0).0 e f.1))

pub returns-clause-ok : goal.returns-clause-ok
returns-clause-ok c =
    let given = c.args.font.now in
    let more = c.args.mapper.now in
    for_ok c.subset.result (λ out. IsAnswer token_limit depth_limit (as_font given) more out.items) (λ out. IsShrunk given more out.items) (λ out second. is_shrunk given more out.items (some_given more c.num_gids-count.ensures.first) second.subset) c.subset.ensures.promise.exact

pub returns-clause-given_back : goal.returns-clause-given_back
returns-clause-given_back c =
    let given = c.args.font.now in
    let more = c.args.mapper.now in
    for_ok c.subset.result (λ out. IsAnswer token_limit depth_limit (as_font given) more out.items) (λ out. IsGivenBack given more out.items) (λ out second. is_given_back given more out.items (some_given more c.num_gids-count.ensures.first) second.subset) c.subset.ensures.promise.exact

pub returns-clause-sound : goal.returns-clause-sound
returns-clause-sound c =
    let fit : IsBytes c.args.font.now = λ k. omega (arith, c.type_inv.font k) in
    no_fault_for_all c.args.font.now c.args.mapper.now fit (some_given c.args.mapper.now c.num_gids-count.ensures.first)

pub returns-clause-only_memory : goal.returns-clause-only_memory
returns-clause-only_memory c =
    let fit : IsBytes c.args.font.now = λ k. omega (arith, c.type_inv.font k) in
    let given = c.args.font.now in
    let more = c.args.mapper.now in
    for_err c.subset.result (λ e. (e ≡ OutOfMemory) ⊎ ((order : List ℕ) × HasFaultWithin None token_limit depth_limit (as_font given) more order e)) (λ e. OfEachSource given (λ source first. AreAll (length first) more → IsTrueTypeOrCidKeyed source → e ≡ OutOfMemory))
    (λ e found source glyphs bytes first all settled. no_other (as_font given) more e (λ order f. no_fault_for_all given more fit (some_given more c.num_gids-count.ensures.first) source glyphs bytes first all settled order e f) found) c.subset.ensures.promise.err

pub returns-clause-unknown : goal.returns-clause-unknown
returns-clause-unknown c = fault_for_unknown c.args.font.now c.args.mapper.now
