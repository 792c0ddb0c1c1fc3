-- What the values of this crate show.
use Rattle.subsetter_cff.specs.declared.read.fd_array.fd_select.FDSelect.{FDSelect}
use Rattle.subsetter_cff.specs.declared.read.fd_array.fd_select.FDSelect.TheVariants.{Format0, Format3}
use Rattle.subsetter_cff.specs.Read.FdArray.FontDicts.{FontDictSelect, Each, Ranges}

abbrev pub select_view : FDSelect → FontDictSelect
select_view (Format0 numbers) = Each numbers.now
select_view (Format3 ranges) = Ranges ranges
