use Rattle.std.proofs.Common.{◌∙◌, ap, sym, map}
use Rattle.subsetter_cffdata.specs.Views.{number_of, operator_of}
use Rattle.subsetter_cff.specs.declared.read.entries.fields.Field.{Field}
use Rattle.subsetter_cff.specs.Read.Entries.Fields.{taken_as}
use Rattle.subsetter_cff.specs.Read.Entries.Values.{values_of}
use Rattle.subsetter_cff.proofs.ReadLaws.EntriesLaws.FieldsTaken.{taken_is}
use Rattle.subsetter_cff.proofs.read.entries.top_dict.take_entry.Goals as goal

pub returns-then-take_field-clause-value : goal.returns-then-take_field-clause-value
returns-then-take_field-clause-value c =
    c.take_field.ensures.value ∙ ap (λ (f : Field). taken_as (values_of c.args.said.now) f (map number_of c.args.operands.now)) c.field_of-field.ensures
    ∙ sym (taken_is (values_of c.args.said.now) (operator_of c.args.operator.now) (map number_of c.args.operands.now))

pub returns-else-take_field-clause-value : goal.returns-else-take_field-clause-value
returns-else-take_field-clause-value c =
    c.take_field.ensures.value ∙ ap (λ (f : Field). taken_as (values_of c.args.said.now) f (map number_of c.args.operands.now)) c.field_of-field.ensures
    ∙ sym (taken_is (values_of c.args.said.now) (operator_of c.args.operator.now) (map number_of c.args.operands.now))
