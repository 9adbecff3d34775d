use Rattle.std.proofs.Common.{◌≡◌, None}
use Rattle.wasi_fs.proofs.StoreFacts.{is_written}
use Rattle.wasi_fs.proofs.store.TreeStore.write_at.Goals as goal

pub returns-clause-takes : goal.returns-clause-takes
returns-clause-takes c =
    let none : c.args.self.now.planned ≡ None = cc in
    (is_written c.args.self.now c.write_file.new.self c.args.file c.args.at c.args.bytes.now c.write_file.result c.counted.result c.write_file.ensures.rest c.counted.ensures none c.requires c.write_file.ensures.outcome).takes

pub returns-clause-tells : goal.returns-clause-tells
returns-clause-tells c =
    let none : c.args.self.now.planned ≡ None = cc in
    (is_written c.args.self.now c.write_file.new.self c.args.file c.args.at c.args.bytes.now c.write_file.result c.counted.result c.write_file.ensures.rest c.counted.ensures none c.requires c.write_file.ensures.outcome).tells

pub returns-clause-changes : goal.returns-clause-changes
returns-clause-changes c =
    let none : c.args.self.now.planned ≡ None = cc in
    (is_written c.args.self.now c.write_file.new.self c.args.file c.args.at c.args.bytes.now c.write_file.result c.counted.result c.write_file.ensures.rest c.counted.ensures none c.requires c.write_file.ensures.outcome).changes

pub returns-clause-rest : goal.returns-clause-rest
returns-clause-rest c =
    let none : c.args.self.now.planned ≡ None = cc in
    (is_written c.args.self.now c.write_file.new.self c.args.file c.args.at c.args.bytes.now c.write_file.result c.counted.result c.write_file.ensures.rest c.counted.ensures none c.requires c.write_file.ensures.outcome).rest
