use Rattle.wasi_reply.proofs.FixedTranscripts.{transcripts_fix}
use Rattle.wasi_reply.proofs.laws.transcripts_fix_both.Goals as goal

pub returns : goal.returns
returns c = transcripts_fix
