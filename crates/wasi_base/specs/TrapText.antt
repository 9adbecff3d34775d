-- The texts of traps and exits.
use Rattle.std.specs.Prelude.{ℕ, ℤ, List, codes, ◌++◌}
use Rattle.std.specs.Fmt.{decimal, signed_decimal}
use Rattle.wasi_base.specs.declared.trap_text.TrapText.{TrapText}
use Rattle.wasi_base.specs.declared.trap_text.TrapText.TheVariants.{ResourceNotPresent, ResourceWrongType, ResourceHasChildren, ResourceTableFull, RequestedLength, NumberOutOfRange, SockRecvUnsupported, SockSendUnsupported, SockShutdownUnsupported, WriteBeyondCapacity, WriteExceededBudget, WriteWhileFlushPending, ConcurrentReads, ConcurrentSkips, ConcurrentCheckWrites, ConcurrentWrites, ConcurrentFlushes}

abbrev pub trap_text : TrapText → List ℕ
trap_text ResourceNotPresent = codes "resource not present"
trap_text ResourceWrongType = codes "resource has another type"
trap_text ResourceHasChildren = codes "resource has children"
trap_text ResourceTableFull = codes "resource table is full"
trap_text (RequestedLength length limit) = codes "requested len " ++ (decimal length ++ (codes " exceeds limit " ++ decimal limit))
trap_text NumberOutOfRange = codes "number out of range"
trap_text SockRecvUnsupported = codes "sock_recv unsupported"
trap_text SockSendUnsupported = codes "sock_send unsupported"
trap_text SockShutdownUnsupported = codes "sock_shutdown unsupported"
trap_text WriteBeyondCapacity = codes "write beyond capacity of MemoryOutputPipe"
trap_text WriteExceededBudget = codes "write exceeded budget"
trap_text WriteWhileFlushPending = codes "write while a flush is pending"
trap_text ConcurrentReads = codes "concurrent reads are not supported"
trap_text ConcurrentSkips = codes "concurrent skips are not supported"
trap_text ConcurrentCheckWrites = codes "concurrent writes are not supported"
trap_text ConcurrentWrites = codes "concurrent writes not supported yet"
trap_text ConcurrentFlushes = codes "concurrent flushes not supported yet"

abbrev pub exit_text : ℤ → List ℕ
exit_text status = codes "Exited with i32 exit status " ++ signed_decimal status
