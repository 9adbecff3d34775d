-- A reply that tells no fault.
use Rattle.wasi_reply.specs.declared.reply.Told.TheVariants as told
use Rattle.wasi_reply.specs.declared.reply.Reply.{Reply}
use Rattle.wasi_reply.specs.declared.reply.Reply.TheVariants as reply
use Rattle.wasi_pipeline.specs.Feeding.{OnFailed}

pub unfailed : (answer : Reply) (P : Type 0) → OnFailed answer ⊥ → OnFailed answer P
unfailed (reply.Told (told.Failed kind)) P none = absurd none
unfailed other P none = tt
