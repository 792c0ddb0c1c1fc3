use Rattle.std.proofs.Common.{◌≡◌, ℕ, Bool, List, Option, Some, ap, sym, ◌∙◌}
use Rattle.std.specs.Option.{option_and_then}
use Rattle.std.specs.Str.{bytes_eq}
use Rattle.subsetter_base.specs.Bytes.{range}
use Rattle.subsetter_sfnt.specs.Read.{record_of}
use Rattle.subsetter_sfnt.proofs.Laws.LayingLaws.Records.{Reads, reads, found_here, found_later}
use Rattle.subsetter_sfnt.proofs.directory.find_record.Goals as goal

-- the record whose bytes were read
read_at : (R bytes b : List ℕ) (p : ℕ) → bytes ≡ R → Some b ≡ range bytes p 16 → Reads R p (record_of b)
read_at R bytes b p same value = reads R p (record_of b) (ap (λ (o : Option (List ℕ)). option_and_then (λ x. Some (record_of x)) o) (ap (λ (l : List ℕ). range l p 16) (sym same) ∙ sym value))

-- by its tag
tag_is : (t tag four : List ℕ) (b : Bool) → t ≡ four → b ≡ bytes_eq t tag → bytes_eq four tag ≡ b
tag_is t tag four b e same = ap (λ (l : List ℕ). bytes_eq l tag) (sym e) ∙ sym same

pub returns-then-eq : goal.returns-then-eq
returns-then-eq c =
    ap Some c.record_in.ensures
    ∙ found_here c.args.tag.0 _ _ (record_of c.in-Some.bytes.now) _ (read_at c.args.records.now c.loop-bytes.r.bytes c.in-Some.bytes.now c.loop-bytes.r.offset c.loop-bytes.invariant.same c.in-Some.ensures.value).more (tag_is _ _ _ _ c.tag_in.ensures c.if-eq.ensures) c.loop-bytes.invariant.rest

pub loop-bytes-preserved : goal.loop-bytes-preserved
loop-bytes-preserved c =
    let read = read_at c.args.records.now c.loop-bytes.r.bytes c.in-Some.bytes.now c.loop-bytes.r.offset c.loop-bytes.invariant.same c.in-Some.ensures.value in
    rw c.in-Some.ensures.moves (record {
      same = c.loop-bytes.invariant.same;
      within = read.within;
      rest = found_later c.args.tag.0 _ _ (record_of c.in-Some.bytes.now) _ read.more (tag_is _ _ _ _ c.tag_in.ensures c.if-eq.ensures) c.loop-bytes.invariant.rest;
    })
