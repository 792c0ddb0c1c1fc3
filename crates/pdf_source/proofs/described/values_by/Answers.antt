use Rattle.std.proofs.Common.{◌≡◌, Bool, Option, Some, None, sym, ap, ◌∙◌}
use Rattle.std.specs.Option.{option_map}
use Rattle.subsetter_sfnt.specs.Read.{table_in}
use Rattle.pdf_values.specs.Descriptor.{SourceTables, values_of}
use Rattle.pdf_values.specs.declared.looks.bounds.Bounds.{Bounds}
use Rattle.pdf_values.specs.declared.looks.bounds.Bounds.TheVariants.{Kept}
use Rattle.pdf_values.specs.Movement.{Movement, movement_view}
use Rattle.pdf_source.specs.Moved.{Location, location_seen, movement_of, values_by}
use Rattle.pdf_source.specs.Source.{bounds_by, tables_of}
use Rattle.pdf_source.proofs.described.values_by.Goals as goal

pub returns-in-None : goal.returns-in-None
returns-in-None c =
    let find = table_in c.args.face.now.«data».now c.args.face.now.records.now in
    let bounds = c.bounds_by.ensures ∙ ap (λ (moving : Bool). bounds_by moving c.args.choice) c.moves-moving.ensures in
    c.values_of.ensures.value
    ∙ ap (λ (t : SourceTables). values_of t c.args.known None c.bounds_by.result) c.tables_of-tables.ensures
    ∙ ap (λ (b : Bounds). values_of (tables_of find) c.args.known None b) bounds
    ∙ ap (λ (location : Option Location). values_by location c.args.known find c.args.choice c.args.settings.now) (sym (ap (option_map location_seen) c.in-None.is))

pub returns-in-Some : goal.returns-in-Some
returns-in-Some c =
    let find = table_in c.args.face.now.«data».now c.args.face.now.records.now in
    let bounds = c.bounds_by-in-Some.ensures ∙ ap (λ (moving : Bool). bounds_by moving Kept) c.moves-moving.ensures in
    let is : c.args.location.now ≡ Some c.in-Some.location = c.in-Some.is in
    let movement : movement_view c.movement_of.result ≡ movement_of find c.args.settings.now (location_seen c.in-Some.location) = c.movement_of.ensures in
    c.values_of-in-Some.ensures.value
    ∙ ap (λ (t : SourceTables). values_of t c.args.known (Some (movement_view c.movement_of.result)) c.bounds_by-in-Some.result) c.tables_of-tables.ensures
    ∙ ap (λ (m : Movement). values_of (tables_of find) c.args.known (Some m) c.bounds_by-in-Some.result) movement
    ∙ ap (λ (b : Bounds). values_of (tables_of find) c.args.known (Some (movement_of find c.args.settings.now (location_seen c.in-Some.location))) b) bounds
    ∙ ap (λ (location : Option Location). values_by location c.args.known find c.args.choice c.args.settings.now) (sym (ap (option_map location_seen) is))
