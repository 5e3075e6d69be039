use Rattle.pm_words.specs.Locations.{Node, word_number}
use Rattle.pm_words.specs.Offsets.{version_offset}
use Rattle.image_rules.specs.Lowest.{IsNumberOf}
use Rattle.image_rules.specs.Rules.{IsLater, BreaksVersions}
use Rattle.image_rules.proofs.LowestLemmas.{lowest-none, lowest-some}
use Rattle.image_rules.proofs.HeaderLemmas.{versions_move}
use Rattle.image_rules.proofs.WordLemmas.{node_number}
use Rattle.image_rules.proofs.header.wrong_version.Goals as goal

pub returns-in_err-node : goal.returns-in_err-node
returns-in_err-node c =
    let l = c.args.image.now.layout in
    let image = c.args.image.now.words in
    lowest-none (IsLater l image) (IsNumberOf l (BreaksVersions l image)) (λ n. word_number l (Node n version_offset)) c.from_residual.result (versions_move l image) c.from_residual.ensures
    c.in_err-node.ensures

pub returns : goal.returns
returns c =
    let l = c.args.image.now.layout in
    let image = c.args.image.now.words in
    lowest-some (IsLater l image) (IsNumberOf l (BreaksVersions l image)) (λ n. word_number l (Node n version_offset)) c.in_ok-node.node c.node_word.result (versions_move l image)
    (node_number l c.layout.result c.in_ok-node.node version_offset c.node_word.result c.layout.ensures.layout c.node_word.ensures.word) c.in_ok-node.ensures
