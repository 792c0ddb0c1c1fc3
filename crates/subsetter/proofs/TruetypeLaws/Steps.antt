-- The steps of an answer.
use Rattle.std.proofs.Common.{◌≡◌, ℕ, ◌^◌, ◌<◌, ltb, Bool, true, false, cond, List, length, Option, Ok, Err, refl, sym, subst}
use Rattle.std.proofs.lemmas.Bool.{ltb-true}
use Rattle.subsetter_base.specs.Bytes.{◌>>=◌}
use Rattle.subsetter_base.specs.declared.error.Error.{Error}
use Rattle.subsetter_base.specs.declared.error.Error.TheVariants.{OverflowError}
use Rattle.subsetter_base.proofs.Results.{done_is, bind_ok}
use Rattle.subsetter_sfnt.specs.declared.flavor.FontFlavor.TheVariants.{TrueType}
use Rattle.subsetter_sfnt.specs.Laying.Written.{Table, fits, file, start_of}
use Rattle.subsetter_sfnt.specs.Plain.{file_of}
use Rattle.subsetter.specs.Glyf.Read.{Outlines}
use Rattle.subsetter.specs.Glyf.Plain.{kept_all}
use Rattle.subsetter.specs.Glyf.Written.{is_long, glyf_bytes, loca_bytes}
use Rattle.subsetter.specs.Common.Shared.Plain.{SharedTables, shared_of}
use Rattle.subsetter.specs.Truetype.Plain.{Made, located, made_of, laid, truetype_tables}
use Rattle.subsetter.proofs.CommonLaws.SharedLaws.Steps.{SharedSteps, shared_steps}

-- a test that was passed
chosen : {A : Type 0} (b : Bool) (x y : A) (e : Error) → cond b (Ok x) (Err e) ≡ Ok y → (b ≡ true) × (x ≡ y)
chosen true x y e h = (refl, done_is x y h)
chosen false x y e h = absurd cc

-- what was made, part by part
pub record MadeSteps (find : List ℕ → Option (List ℕ)) (t : Outlines) (order : List ℕ) (m : Made) : Type 0 where
  pub kept : kept_all t order order ≡ Ok m.outlines
  pub small : length (glyf_bytes (is_long m.outlines) m.outlines) < 2 ^ 32
  pub loca_is : m.loca ≡ loca_bytes (is_long m.outlines) 0 m.outlines
  pub shared : SharedSteps find TrueType (is_long m.outlines) order m.shared

located_steps : (bs : List (List ℕ)) (loca : List ℕ) → located bs ≡ Ok loca → (length (glyf_bytes (is_long bs) bs) < 2 ^ 32) × (loca ≡ loca_bytes (is_long bs) 0 bs)
unfolding located
located_steps bs loca h = let c = chosen (ltb (length (glyf_bytes (is_long bs) bs)) (2 ^ 32)) (loca_bytes (is_long bs) 0 bs) loca OverflowError h in (ltb-true _ _ c.0, sym c.1)

pub made_steps : (find : List ℕ → Option (List ℕ)) (t : Outlines) (order : List ℕ) (m : Made) → made_of find t order ≡ Ok m → MadeSteps find t order m
unfolding made_of
made_steps find t order m h =
    let after_shared = λ (bs : List (List ℕ)) (loca : List ℕ) (shared : SharedTables). Ok (record { outlines = bs; loca = loca; shared = shared }) in
    let after_loca = λ (bs : List (List ℕ)) (loca : List ℕ). shared_of find TrueType (is_long bs) order >>= after_shared bs loca in
    let after_kept = λ (bs : List (List ℕ)). located bs >>= after_loca bs in
    let a = bind_ok (kept_all t order order) after_kept m h in
    let b = bind_ok (located a.0) (after_loca a.0) m a.2 in
    let c = bind_ok (shared_of find TrueType (is_long a.0) order) (after_shared a.0 b.0) m b.2 in
    let l = located_steps a.0 b.0 b.1 in
    let made : Made = record { outlines = a.0; loca = b.0; shared = c.0 } in
    subst (MadeSteps find t order) {x = made} (done_is made m c.2) (record { kept = a.1; small = l.0; loca_is = l.1; shared = shared_steps find TrueType (is_long a.0) order c.0 c.1 })

-- the tables, and the file
pub tables_steps : (find : List ℕ → Option (List ℕ)) (t : Outlines) (order : List ℕ) (ts : List Table) → truetype_tables find t order ≡ Ok ts → (m : Made) × (made_of find t order ≡ Ok m) × (laid find m ≡ ts)
unfolding truetype_tables
tables_steps find t order ts h = let a = bind_ok (made_of find t order) (λ m. Ok (laid find m)) ts h in (a.0, a.1, done_is (laid find a.0) ts a.2)

pub file_steps : (kind : ℕ) (ts : List Table) (out : List ℕ) → file_of kind ts ≡ Ok out → (fits (start_of ts) ts ≡ true) × (file kind ts ≡ out)
unfolding file_of
file_steps kind ts out h = chosen (fits (start_of ts) ts) (file kind ts) out OverflowError h
