-- The strings of a source, by the numbers that were read.
use Rattle.std.proofs.Common.{◌≡◌, ap, ◌∙◌, sym}
use Rattle.std.specs.Option.{option_map}
use Rattle.subsetter_cff.specs.declared.read.source.Table.{Table}
use Rattle.subsetter_cff.specs.Read.Entries.Operators.{copyright_operator, notice_operator, font_name_operator}
use Rattle.subsetter_cff.specs.Write.Strings.SidRemapping.{named}
use Rattle.subsetter_cff.specs.Read.Source.{cff_of, IsSource}
use Rattle.subsetter_cff.specs.Read.Strings.{string_at}
use Rattle.subsetter_cff.proofs.ReadLaws.EntriesLaws.LastHolds.{strings_named}

pub copyright_named : (s : Table) → IsSource s → named (cff_of s).strings (option_map (λ x. x.0) s.top.copyright) ≡ string_at (cff_of s).strings copyright_operator (cff_of s).top
copyright_named s is = ap (named (cff_of s).strings) is.top.copyright ∙ sym (strings_named (cff_of s).strings (cff_of s).top is.demands).0

pub notice_named : (s : Table) → IsSource s → named (cff_of s).strings (option_map (λ x. x.0) s.top.notice) ≡ string_at (cff_of s).strings notice_operator (cff_of s).top
notice_named s is = ap (named (cff_of s).strings) is.top.notice ∙ sym (strings_named (cff_of s).strings (cff_of s).top is.demands).1

pub font_name_named : (s : Table) → IsSource s → named (cff_of s).strings (option_map (λ x. x.0) s.top.font_name) ≡ string_at (cff_of s).strings font_name_operator (cff_of s).top
font_name_named s is = ap (named (cff_of s).strings) is.top.font_name ∙ sym (strings_named (cff_of s).strings (cff_of s).top is.demands).2
