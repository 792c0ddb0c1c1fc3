use Rattle.subsetter_type2.proofs.Playback.{flat_again}
use Rattle.subsetter_type2.proofs.laws.flat_form_is_flat.Goals as goal

pub returns : goal.returns
returns c = flat_again
