use Rattle.std.proofs.Common.{◌↔◌, List, subst}
use Rattle.std.specs.Prelude.{IsTrue}
use Rattle.transcript.specs.Spans.{stops_of, FollowEachOther}
use Rattle.transcript.specs.declared.spans.Span.{Span}
use Rattle.transcript.proofs.SpanLemmas.{apart_so}
use Rattle.transcript.proofs.StopLemmas.{stops_apart, stops_are}
use Rattle.transcript.proofs.stops.stop_once.Goals as goal

pub follow_each_other-requires : goal.follow_each_other-requires
follow_each_other-requires c = apart_so c.in_ok-stops_told.ensures (stops_apart c.args.told.now c.requires)

pub returns : goal.returns
returns c =
    let told = c.args.told.now in
    let follow : IsTrue c.follow_each_other.result ↔ FollowEachOther (stops_of told) =
    subst (λ (stops : List Span). IsTrue c.follow_each_other.result ↔ FollowEachOther stops) c.in_ok-stops_told.ensures c.follow_each_other.ensures in (
      λ yes. (stops_are told).0 (follow.0 yes),
      λ once. follow.1 ((stops_are told).1 once),
    )
