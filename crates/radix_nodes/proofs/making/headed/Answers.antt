use Rattle.std.proofs.Common.{◌≡◌, suc, ◌+◌, slice_index, slice_set, ap, ◌∙◌, arith}
use Rattle.pm_words.specs.Offsets.{prefix_offset}
use Rattle.radix_nodes.specs.Making.{headed_words}
use Rattle.radix_nodes.proofs.making.headed.Goals as goal

pub loop-at-init : goal.loop-at-init
loop-at-init c = ap (λ w. slice_set w 0 c.args.depth) c.no_words-words.ensures

pub loop-at-preserved : goal.loop-at-preserved
loop-at-preserved c =
    let at = c.loop-at.at in
    let prefix = slice_index c.args.prefix in
    ap (λ w. slice_set w (prefix_offset + at) (prefix at)) c.loop-at.invariant ∙ ap (headed_words c.args.depth prefix) (let next : suc at ≡ at + 1 = omega arith in next)

pub returns : goal.returns
returns c = c.loop-at.invariant ∙ ap (headed_words c.args.depth (slice_index c.args.prefix)) (let last : c.loop-at.at ≡ 3 = omega arith in last)
