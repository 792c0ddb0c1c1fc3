use Rattle.std.proofs.Common.{length, refl}
use Rattle.std.proofs.lemmas.Option.{slice_get_read}
use Rattle.pdf_cff.proofs.DictStemLaws.{one_of}
use Rattle.pdf_cff.proofs.dict_stems.first_stem_in.Goals as goal

pub stem_of_dict-requires-clause-dict : goal.stem_of_dict-requires-clause-dict
stem_of_dict-requires-clause-dict c =
    let dicts = c.args.dicts.now in
    let i = c.loop-dict.dict-index in
    one_of c.args.bytes.now c.requires.dicts.0 dicts i c.dict-item.result c.requires.dicts.1 (slice_get_read dicts (length dicts) i c.dict-item.result refl c.loop-dict-test.true c.dict-item.is)
