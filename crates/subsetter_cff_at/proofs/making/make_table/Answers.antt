use Rattle.subsetter_cff.specs.Write.Laying.TableBy.{table_bytes}
use Rattle.subsetter_cff_at.specs.View.{request_of}
use Rattle.subsetter_cff_at.proofs.Promises.{answered, boxed, clean, refused}
use Rattle.subsetter_cff_at.proofs.making.make_table.Goals as goal

pub returns-clause-ok : goal.returns-clause-ok
returns-clause-ok c =
    answered (λ t. table_bytes t.pieces) c.args.limits.bytes c.args.bytes.now (request_of c.args.request.now) c.args.limits.tokens c.args.limits.depth c.make_exactly.result
    (record { few = c.requires }) c.make_exactly.ensures.ok

pub returns-clause-clean : goal.returns-clause-clean
returns-clause-clean c = clean (λ t. table_bytes t.pieces) c.args.limits.bytes c.args.bytes.now (request_of c.args.request.now) c.args.limits.tokens c.args.limits.depth c.make_exactly.result c.make_exactly.ensures.ok

pub returns-clause-err : goal.returns-clause-err
returns-clause-err c = refused (λ t. table_bytes t.pieces) c.args.limits.bytes c.args.bytes.now (request_of c.args.request.now) c.args.limits.tokens c.args.limits.depth c.make_exactly.result c.make_exactly.ensures.err

pub returns-clause-boxes : goal.returns-clause-boxes
returns-clause-boxes c =
    boxed (λ t. table_bytes t.pieces) c.args.limits.bytes c.args.bytes.now (request_of c.args.request.now) c.args.limits.tokens c.args.limits.depth (λ t. t.boxes.items) c.make_exactly.result
    (record { few = c.requires }) c.make_exactly.ensures.ok c.make_exactly.ensures.boxes
