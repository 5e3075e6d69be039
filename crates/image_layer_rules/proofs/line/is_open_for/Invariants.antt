use Rattle.std.proofs.Common.{◌≡◌, ◌+◌, ◌≢◌}
use Rattle.layer_map.specs.Keys.{key_of, key_number}
use Rattle.pm_words.specs.Offsets.{anchor_offset, state_offset}
use Rattle.image_rules.specs.Rules.{line_spot}
use Rattle.image_rules.proofs.LowestLemmas.{NoneBelow}
use Rattle.image_layer_rules.proofs.line.is_open_for.Given as goal

-- no line that the loop has passed exempts the key
abbrev pub invariant-loop-line : goal.invariant-loop-line
invariant-loop-line l =
    let word = line_spot l.image.layout l.image.words in
    NoneBelow (λ line. (word line state_offset ≢ 0) × (key_of (word line anchor_offset) (word line (anchor_offset + 1)) (word line (anchor_offset + 2)) ≡ key_number l.key)) l.line
