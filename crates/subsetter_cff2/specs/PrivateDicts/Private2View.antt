-- What a private dict in memory shows.
use Rattle.subsetter_cffdata.specs.Indexes.IndexView.{items}
use Rattle.subsetter_cff2.specs.PrivateDicts.Private2.{Private2}
use Rattle.subsetter_cff2.specs.declared.private_dicts.private2.PrivateDict2.{PrivateDict2}

abbrev pub private_view : PrivateDict2 → Private2
private_view p = record { dict = p.dict.now; subroutines = items p.subroutines }
