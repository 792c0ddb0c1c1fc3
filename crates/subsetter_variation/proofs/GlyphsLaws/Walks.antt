-- The tuples of a glyph, one after another.
use Rattle.std.proofs.Common.{◌≡◌, ℕ, suc, ◌+◌, ◌-◌, ◌<◌, List, Option, Result, Ok, Err, ℤ, refl, sym, ◌∙◌, arith}
use Rattle.subsetter_base.specs.Bytes.{◌>>=◌}
use Rattle.subsetter_base.specs.Gives.{Fails}
use Rattle.subsetter_base.specs.declared.error.Error.{Error}
use Rattle.subsetter_base.specs.declared.error.Error.TheVariants.{UnknownKind, MalformedFont, Unimplemented, SubsetError, OverflowError, CFFError, OutOfMemory}
use Rattle.subsetter_variation.specs.Glyphs.Tuples.{Gvar}
use Rattle.subsetter_variation.specs.Glyphs.Movement.{Outline, Walk, next_walk, walk_all}

pub walk_step : (t : Gvar) (o : Outline) (shared : Option (List ℕ)) (at : List ℤ) (n i : ℕ) (w v : Walk) → i < n → next_walk t o shared at w ≡ Ok v → walk_all t o shared at (n - i) w ≡ walk_all t o shared at (n - (i + 1)) v
walk_step t o shared at n i w v less h =
    let one : n - i ≡ suc (n - (i + 1)) = omega arith in
    rw (one, h) refl

pub walk_cut : (t : Gvar) (o : Outline) (shared : Option (List ℕ)) (at : List ℤ) (n i : ℕ) (w : Walk) (e : Error) → i < n → next_walk t o shared at w ≡ Err e → walk_all t o shared at (n - i) w ≡ Err e
walk_cut t o shared at n i w e less h =
    let one : n - i ≡ suc (n - (i + 1)) = omega arith in
    rw (one, h) refl

pub walk_end : (t : Gvar) (o : Outline) (shared : Option (List ℕ)) (at : List ℤ) (n i : ℕ) (w : Walk) → n ≡ i → walk_all t o shared at (n - i) w ≡ Ok w
walk_end t o shared at n i w same =
    let none : n - i ≡ 0 = omega arith in
    rw none refl

ended : {X Y : Type 0} (part : Result X Error) (go : X → Result Y Error) (e : Error) → part ≡ Err e → (part >>= go) ≡ Err e
ended (Ok x) go e h = absurd (cc)
ended (Err f) go e h = cc

-- where the part fails, so does what goes on from it
pub fails_on : {X Y : Type 0} (part : Result X Error) (go : X → Result Y Error) (whole : Result Y Error) (e : Error) → (part >>= go) ≡ whole → Fails e part → Fails e whole
fails_on part go whole OutOfMemory same h = tt
fails_on part go whole UnknownKind same h = sym same ∙ ended part go UnknownKind h
fails_on part go whole MalformedFont same h = sym same ∙ ended part go MalformedFont h
fails_on part go whole Unimplemented same h = sym same ∙ ended part go Unimplemented h
fails_on part go whole SubsetError same h = sym same ∙ ended part go SubsetError h
fails_on part go whole OverflowError same h = sym same ∙ ended part go OverflowError h
fails_on part go whole CFFError same h = sym same ∙ ended part go CFFError h

-- an error of one tuple is that of all
pub walk_fails : (t : Gvar) (o : Outline) (shared : Option (List ℕ)) (at : List ℤ) (n i : ℕ) (w : Walk) (whole : Result Walk Error) (e : Error) → i < n → walk_all t o shared at (n - i) w ≡ whole → Fails e (next_walk t o shared at w) → Fails e whole
walk_fails t o shared at n i w whole e less same h =
    let one : n - i ≡ suc (n - (i + 1)) = omega arith in
    fails_on (next_walk t o shared at w) (walk_all t o shared at (n - (i + 1))) whole e (rw one at same) h
