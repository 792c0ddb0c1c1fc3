-- Which table a value of the code means.
use Rattle.cmap.specs.Subtable.{Mapping, groups, segments}
use Rattle.cmap.specs.declared.mapping.Subtable.{Subtable}
use Rattle.cmap.specs.declared.mapping.Subtable.TheVariants.{Groups, Segments}

abbrev pub mapping_view : Subtable → Mapping
mapping_view (Groups table) = groups table.now
mapping_view (Segments table) = segments table.now
