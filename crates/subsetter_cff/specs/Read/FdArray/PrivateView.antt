-- What a private dict in memory shows.
use Rattle.subsetter_cffdata.specs.Dicts.Dict.{entries}
use Rattle.subsetter_cffdata.specs.Indexes.IndexView.{items}
use Rattle.subsetter_cff.specs.declared.read.fd_array.private.PrivateDict.{PrivateDict}
use Rattle.subsetter_cff.specs.Read.FdArray.Private.{Private}

abbrev pub private_view : PrivateDict → Private
private_view p = record { entries = entries p.dict.now; subroutines = items p.subroutines }
