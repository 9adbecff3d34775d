-- Over a whole run each output whose writes go straight out has what the writes that went there added, in order.
use Rattle.std.proofs.Common.{◌≡◌, ℕ, Bool, true, false, cond, List, [], ◌∷◌, Option, Some, None, refl, ap, ◌∙◌, sym, subst, true≢false, inl, inr}
use Rattle.std.specs.Prelude.{is_some, map, nat_eq, ◌||◌}
use Rattle.std.specs.Map.{lookup}
use Rattle.std.specs.Option.{option_map, option_and_then}
use Rattle.std.specs.Str.{bytes_eq}
use Rattle.wasi_base.specs.Source.{Told}
use Rattle.wasi_script.specs.declared.lines.OutputDeclaration.{OutputDeclaration}
use Rattle.wasi_script.specs.declared.lines.OutputDeclaration.TheVariants as declared_out
use Rattle.wasi_script.specs.declared.lines.Standard.{Standard}
use Rattle.wasi_script.specs.declared.lines.EntryCall.{EntryCall}
use Rattle.wasi_script.specs.declared.lines.Line.{Line}
use Rattle.wasi_reply.specs.declared.reply.Reply.{Reply}
use Rattle.wasi_reply.specs.declared.reply.Reply.TheVariants as reply
use Rattle.wasi_host.specs.declared.entry.StreamEntry.{StreamEntry}
use Rattle.wasi_host.specs.declared.stream.OutStream.{OutStream}
use Rattle.wasi_host.specs.declared.stream.OutStream.TheVariants as stream
use Rattle.wasi_host.specs.declared.entry.Entry.TheVariants as entry
use Rattle.wasi_host.specs.declared.leaver.Leaver.{Leaver}
use Rattle.wasi_host.specs.OutStreams.{taken_of, output_without}
use Rattle.wasi_host.specs.Tasks.{output_turned}
use Rattle.wasi_host.specs.Deeds.{Own, entry_at}
use Rattle.wasi_host.specs.Calls.{Owner}
use Rattle.wasi_host.specs.Host.{Named, Host, new_output, step_host, step_told, given_for, size_read, new_host, host_end}
use Rattle.wasi_host.specs.Promises.{is_direct, direct_taken, Fills, FillsAll, OutputFills}
use Rattle.wasi_host.specs.laws.Tasks.{sort_of, sent_sort}
use Rattle.wasi_host.specs.laws.Kept.{outputs_keep}
use Rattle.wasi_host.specs.laws.Walk.{HoldsOfEach, left_by, told_by, step_holds}

-- what an output took, where it is one whose writes go straight out
abbrev direct_in : Option OutStream → Option (List ℕ)
direct_in o = option_and_then direct_taken o

abbrev is_direct_sort : ℕ → Bool
is_direct_sort n = nat_eq n 1 || nat_eq n 3

direct_by : (s : OutStream) → is_direct s ≡ is_direct_sort (sort_of s)
direct_by (stream.Pipe pipe) = refl
direct_by (stream.File out) = refl
direct_by (stream.Stdio out) = refl
direct_by (stream.Buffered writer) = refl
direct_by other = refl

abbrev FillsIn : Option (EntryCall × StreamEntry) → Reply → Option OutStream → Option OutStream → Type 0
FillsIn on answer before after = Fills on answer (direct_in before) (direct_in after)

still : (answer : Reply) (o : Option (List ℕ)) → Fills None answer o o
still answer None = inl refl
still answer (Some taken) = (taken, refl, refl)

new_fills : (it : OutputDeclaration) (answer : Reply) → FillsIn None answer None (Some (new_output it))
new_fills (declared_out.Pipe capacity) answer = inr refl
new_fills (declared_out.File room plan) answer = inr refl
new_fills (declared_out.Stdio room plan) answer = inr refl
new_fills (declared_out.Buffered room plan budget) answer = inl refl

sends_fill : (it : EntryCall) (of : Option ℕ) (which : Standard) (at : Owner) (e : StreamEntry) (own : Own) (s : OutStream) → entry_at own at.number ≡ Some (entry.Stream of which e) → FillsIn (Some (it, e)) (told_by it of which at e own s) (Some s) (Some (left_by it of which at e s))
sends_fill it of which at e own s held = by (is_direct s) refl
  where
    left : OutStream
    left = left_by it of which at e s

    by : (b : Bool) → is_direct s ≡ b → Fills (Some (it, e)) (told_by it of which at e own s) (direct_taken s) (direct_taken left)
    by true is =
        let kept = outputs_keep it of which at e s own is in
        subst (λ b. Fills (Some (it, e)) (told_by it of which at e own s) (cond b (Some (taken_of s)) None) (direct_taken left)) (sym is) (taken_of left, ap (λ b. cond b (Some (taken_of left)) None) kept.direct, kept.took)
    by false is =
        let none : is_direct left ≡ false = direct_by left ∙ ap is_direct_sort (sent_sort it of which at e s) ∙ sym (direct_by s) ∙ is in
        subst (λ b. Fills (Some (it, e)) (told_by it of which at e own s) (cond b (Some (taken_of s)) None) (direct_taken left)) (sym is) (inl (ap (λ b. cond b (Some (taken_of left)) None) none))

turns_fill : (s : OutStream) (answer : Reply) → FillsIn None answer (Some s) (Some (output_turned s).left)
turns_fill (stream.Buffered writer) answer = inl refl
turns_fill (stream.Pipe pipe) answer = (pipe.contents, refl, refl)
turns_fill (stream.File out) answer = (out.taken, refl, refl)
turns_fill (stream.Stdio out) answer = (out.taken, refl, refl)
turns_fill stream.Closed answer = inl refl
turns_fill stream.Sink answer = inl refl

leaves_fill : (on : Option (EntryCall × StreamEntry)) (answer : Reply) (before : Option OutStream) (who : Leaver) (s : OutStream) → FillsIn on answer before (Some s) → FillsIn on answer before (Some (output_without who s))
leaves_fill on answer before who (stream.Buffered it) fills = fills
leaves_fill on answer before who (stream.Pipe pipe) fills = fills
leaves_fill on answer before who (stream.File out) fills = fills
leaves_fill on answer before who (stream.Stdio out) fills = fills
leaves_fill on answer before who stream.Closed fills = fills
leaves_fill on answer before who stream.Sink fills = fills

each_fills : HoldsOfEach FillsIn
each_fills = record {
  keeps = λ answer o. still answer (direct_in o);
  declares = new_fills;
  sends = sends_fill;
  misses = λ it of which at e own. inl refl;
  leaves = leaves_fill;
  turns = λ s. turns_fill s (reply.Worked (output_turned s).told);
}

fills_all : (name : List ℕ) (steps : List Line) (host : Host) (told : Told) → FillsAll name steps host told
fills_all name [] host told = tt
fills_all name (step ∷ steps) host told = (step_holds FillsIn each_fills name step host (given_for (size_read step host) told), fills_all name steps (step_host step host told) (step_told step host told))

-- what the transcript prints of an output
pub printed : (test : List ℕ → Bool) (outputs : Named OutStream) → lookup test (map (λ row. (row.0, taken_of row.1)) outputs) ≡ option_map taken_of (lookup test outputs)
printed test [] = refl
printed test (row ∷ outputs) = by (test row.0) (printed test outputs)
  where
    by : (b : Bool) → lookup test (map (λ row. (row.0, taken_of row.1)) outputs) ≡ option_map taken_of (lookup test outputs) → cond b (Some (taken_of row.1)) (lookup test (map (λ row. (row.0, taken_of row.1)) outputs)) ≡ option_map taken_of (cond b (Some row.1) (lookup test outputs))
    by true rest = refl
    by false rest = rest

taken_is : (o : Option OutStream) (taken : List ℕ) → direct_in o ≡ Some taken → option_map taken_of o ≡ Some taken
taken_is None taken e = absurd (true≢false (sym (ap is_some e)))
taken_is (Some s) taken e = by (is_direct s) e
  where
    by : (b : Bool) → cond b (Some (taken_of s)) None ≡ Some taken → Some (taken_of s) ≡ Some taken
    by true e = e
    by false e = absurd (true≢false (sym (ap is_some e)))

pub outputs_fill : (name : List ℕ) (steps : List Line) (told : Told) → OutputFills name steps told
outputs_fill name steps told = record {
  fills = fills_all name steps new_host told;
  printed = λ taken is. printed (bytes_eq name) (host_end steps new_host told).streams.outputs ∙ taken_is (lookup (bytes_eq name) (host_end steps new_host told).streams.outputs) taken is;
}
