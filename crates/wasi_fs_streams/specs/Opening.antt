-- The calls that make a stream of a descriptor, with their refusals in order.
use Rattle.std.specs.Prelude.{ℕ, None, Result, Ok, Err, not, ◌||◌}
use Rattle.wasi_fs.specs.Flags.{may_read, may_write, is_read_only}
use Rattle.wasi_fs.specs.Trees.{as_file}
use Rattle.wasi_fs.specs.declared.descriptor.Descriptor.{Descriptor}
use Rattle.wasi_fs.specs.declared.descriptor.Descriptor.TheVariants as descriptor
use Rattle.wasi_fs_nodes.specs.Outcome.{then, unless}
use Rattle.wasi_fs_nodes.specs.declared.at.At.{At}
use Rattle.wasi_fs_types.specs.declared.error_code.ErrorCode.{ErrorCode}
use Rattle.wasi_fs_types.specs.declared.error_code.ErrorCode.TheVariants as code
use Rattle.wasi_fs_streams.specs.declared.read.ReadStreamProducer.{ReadStreamProducer}
use Rattle.wasi_fs_streams.specs.declared.read.ReadStreamProducer.TheVariants as reads
use Rattle.wasi_fs_streams.specs.declared.write.WriteStreamConsumer.{WriteStreamConsumer}
use Rattle.wasi_fs_streams.specs.declared.write.WriteStreamConsumer.TheVariants as writes

abbrev pub read_stream : Descriptor → ℕ → Result ReadStreamProducer ErrorCode
read_stream (descriptor.Dir dir) offset = Err code.IsDirectory
read_stream (descriptor.File file) offset = unless (not (may_read file.mode)) code.NotPermitted (Ok (reads.Open file offset None))

abbrev pub write_stream : Descriptor → At → Result WriteStreamConsumer ErrorCode
write_stream at location = then (as_file at) (λ file.
    unless (is_read_only file.perms) code.NotPermitted
    (unless (not (may_write file.mode)) code.NotPermitted
    (Ok (writes.Open file location None))))
