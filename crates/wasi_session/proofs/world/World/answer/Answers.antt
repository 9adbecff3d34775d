use Rattle.wasi_script.specs.Grammar.{may_declare, budget_stands, context_stands}
use Rattle.wasi_script.specs.laws.Distinct.{first_is}
use Rattle.wasi_host.specs.Host.{names_of}
use Rattle.wasi_host.specs.laws.Steps.{second_of}
use Rattle.wasi_session.proofs.GuestFacts.{no_input, no_output, call_is_step}
use Rattle.wasi_session.proofs.world.World.answer.Goals as goal

pub declare_input-requires : goal.declare_input-requires
declare_input-requires g c = no_input c.args.self.now c.in-Input.name (rw c.in-Input.is at c.requires.fits)

pub declare_output-requires-clause-new : goal.declare_output-requires-clause-new
declare_output-requires-clause-new g c = no_output c.args.self.now c.in-Output.name (first_is _ (budget_stands c.in-Output.output) (rw c.in-Output.is at c.requires.fits))

pub declare_output-requires-clause-stands : goal.declare_output-requires-clause-stands
declare_output-requires-clause-stands g c = second_of (may_declare (names_of c.args.self.now) c.in-Output.name) _ (rw c.in-Output.is at c.requires.fits)

pub call-requires : goal.call-requires
call-requires g c = first_is _ (context_stands (names_of c.args.self.now) c.in-Call.context) (rw c.in-Call.is at c.requires.fits)

pub returns-in-Call-clause-step : goal.returns-in-Call-clause-step
returns-in-Call-clause-step g c = call_is_step c.call.result (g.I.Source.told c.args.stdin.now) c.args.self.now c.call.new.self c.in-Call.context c.in-Call.call c.args.line.now c.in-Call.is c.call.ensures.reply c.call.ensures.after
