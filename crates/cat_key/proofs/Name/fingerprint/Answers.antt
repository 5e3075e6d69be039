use Rattle.std.proofs.Common.{◌≡◌, ◌%◌, [], drop, ap, ◌∙◌, arith, drop_of_length-le}
use Rattle.cat_key.specs.Names.{weighted_sum, fingerprint_of}
use Rattle.cat_key.proofs.Bytes.{weighted_sum-all_bytes}
use Rattle.cat_key.proofs.Name.fingerprint.Goals as goal

pub returns : goal.returns
unfolding fingerprint_of
returns c =
    let bytes = c.unpacked-bytes.result in
    let ended : drop c.loop-at.at bytes ≡ [] = drop_of_length-le bytes (omega arith) in
    let rest : weighted_sum c.loop-at.at (drop c.loop-at.at bytes) ≡ 0 = rw ended in
    let whole : c.loop-at.sum ≡ weighted_sum 0 bytes = omega arith in
    let named : weighted_sum 0 bytes ≡ weighted_sum 0 c.args.self.now =
    rw c.unpacked-bytes.ensures (weighted_sum-all_bytes c.self.inside.words c.self.invariant ∙ ap (weighted_sum 0) c.self.view_is) in
    ap (λ sum. sum % 256) (whole ∙ named)
