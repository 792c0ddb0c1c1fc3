use Rattle.std.proofs.Common.{◌≡◌, ◌++◌, List, ℕ, length, w16, w32, sym, ap, ◌∙◌, arith}
use Rattle.std.specs.Int.{to_be_bytes}
use Rattle.std.proofs.lemmas.List.{length-append}
use Rattle.subsetter.specs.Common.Maxp.Read.{version_of, further_fields}
use Rattle.subsetter.specs.Common.Maxp.Written.{hinted, hinted_fields}
use Rattle.subsetter.proofs.CommonLaws.MaxpLaws.Fields.{maxp_parts, maxp_size, same_fields, three_written}
use Rattle.subsetter.proofs.common.maxp.NewMaxp.write.Goals as goal

pub write_fields-requires : goal.write_fields-requires
write_fields-requires c =
    let m = c.self.inside in
    let out = c.args.out.now.items in
    let v = to_be_bytes w32 (version_of m.flavor) in
    let n = to_be_bytes w16 m.count in
    let one : c.put.new.out.items ≡ out ++ v = c.put.ensures.items ∙ ap (λ (l : List ℕ). out ++ l) (c.to_be_bytes.ensures ∙ ap (to_be_bytes w32) c.version.ensures) in
    let two : c.put-2.new.out.items ≡ c.put.new.out.items ++ n = c.put-2.ensures.items ∙ ap (λ (l : List ℕ). c.put.new.out.items ++ l) c.to_be_bytes-2.ensures in
    omega (arith, c.requires, maxp_size m.hinting m.flavor m.count m.source.now c.self.invariant, ap length c.self.view_is, ap length one, ap length two, length-append out v, length-append c.put.new.out.items n, ap length c.further_fields.ensures, c.put.ensures.capacity, c.put-2.ensures.capacity)

pub returns-clause-items : goal.returns-clause-items
returns-clause-items c =
    let m = c.self.inside in
    let out = c.args.out.now.items in
    let v = to_be_bytes w32 (version_of m.flavor) in
    let n = to_be_bytes w16 m.count in
    let f = further_fields m.flavor (hinted m.hinting m.source.now) in
    let one : c.put.new.out.items ≡ out ++ v = c.put.ensures.items ∙ ap (λ (l : List ℕ). out ++ l) (c.to_be_bytes.ensures ∙ ap (to_be_bytes w32) c.version.ensures) in
    let two : c.put-2.new.out.items ≡ c.put.new.out.items ++ n = c.put-2.ensures.items ∙ ap (λ (l : List ℕ). c.put.new.out.items ++ l) c.to_be_bytes-2.ensures in
    let three : c.write_fields.new.out.items ≡ c.put-2.new.out.items ++ f = c.write_fields.ensures.items ∙ ap (λ (l : List ℕ). c.put-2.new.out.items ++ l) (ap (hinted_fields m.hinting) c.further_fields.ensures ∙ sym (same_fields m.hinting m.flavor m.source.now c.self.invariant)) in
    three_written out v n f c.put.new.out.items c.put-2.new.out.items c.write_fields.new.out.items one two three ∙ ap (λ (l : List ℕ). out ++ l) (maxp_parts m.flavor m.count (hinted m.hinting m.source.now) ∙ c.self.view_is)
