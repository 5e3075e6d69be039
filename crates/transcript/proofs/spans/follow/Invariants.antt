use Rattle.std.proofs.Common.{◌↔◌, drop}
use Rattle.transcript.proofs.SpanLemmas.{Follow}
use Rattle.transcript.proofs.spans.follow.Given as goal

-- all follow exactly where those that are left do, behind those so far
abbrev pub invariant-loop-span : goal.invariant-loop-span
invariant-loop-span l = Follow l.caller l.latest (drop l.span-index l.spans) ↔ Follow 0 0 l.spans
