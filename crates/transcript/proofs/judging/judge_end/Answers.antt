use Rattle.std.proofs.Common.{◌≡◌, ◌∙◌, length, ap, sym}
use Rattle.std.specs.FinMap as fin
use Rattle.cat_history.specs.Maps.{Map, map_of}
use Rattle.transcript.specs.Ends.{end_told}
use Rattle.transcript.specs.Rules.{EndsAsSaid}
use Rattle.transcript.proofs.JudgeLemmas.{right_end, end_8}
use Rattle.transcript.proofs.judging.judge_end.Goals.{After-len}
use Rattle.transcript.proofs.judging.judge_end.Goals as goal

-- what the answers of both paths share: how many names there are, and that each call ends as was said
ended : (c : After-len) → (fin.len (end_told (map_of c.args.base.now) c.args.told.now c.args.writes.now) ≡ c.len.result) × EndsAsSaid (map_of c.args.base.now) c.args.told.now c.args.end.now c.args.writes.now
ended c = (
  fin.len-entries (end_told (map_of c.args.base.now) c.args.told.now c.args.writes.now) ∙ ap length (sym c.in_ok-names.ensures) ∙ sym c.len.ensures.len,
  (c.in_ok-ends_as_said.ensures (map_of c.args.base.now) c.args.writes.now c.in_ok-names.ensures).0 c.if-not-branch.false,
)

pub returns-then-len-end : goal.returns-then-len-end
returns-then-len-end c =
    let so = ended (goal.at.returns-then-len-end c).After-len in
    end_8 (map_of c.args.base.now) c.args.told.now c.args.end.now c.args.writes.now so.1 (λ same. c.if-len-end.true (sym so.0 ∙ same))

pub returns : goal.returns
returns c =
    let base : Map = map_of c.args.base.now in
    let m : Map = end_told base c.args.told.now c.args.writes.now in
    let so = ended (goal.at.returns c).After-len in
    (m, right_end base c.args.told.now c.args.end.now c.args.writes.now so.1 (so.0 ∙ c.if-len-end.false), c.in_ok-pairs_in.ensures m c.in_ok-names.ensures)
