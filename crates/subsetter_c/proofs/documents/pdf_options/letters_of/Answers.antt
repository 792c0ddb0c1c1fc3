use Rattle.std.proofs.Common.{arith}
use Rattle.subsetter_c.proofs.Letters.{letters_found, six, tag_read}
use Rattle.subsetter_c.proofs.documents.pdf_options.letters_of.Goals as goal

pub returns : goal.returns
returns c =
    tag_read c.args.front c.args.back (six c.to_be_bytes-front.result c.to_be_bytes-back.result) (letters_found c.args.front c.args.back c.to_be_bytes-front.result c.to_be_bytes-back.result c.to_be_bytes-front.ensures c.to_be_bytes-back.ensures)
    (omega arith) (omega arith) c.new.result c.new.ensures
