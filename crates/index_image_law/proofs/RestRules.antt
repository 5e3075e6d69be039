-- The image is sound by the rules on its header, list, nodes and log.
use Rattle.std.proofs.Common.{◌≡◌, ℕ, ◌*◌, ◌/◌, ◌%◌, ◌<◌, ◌≤◌, inr, List, refl, ◌∙◌, sym, subst, arith}
use Rattle.pm_words.specs.declared.layout.Layout.{Layout}
use Rattle.pm_words.specs.Locations.{Word, Header, Root, Node, Line, Leaf, Cell, Cached, word_at, at}
use Rattle.pm_words.specs.Rows.{cached_row}
use Rattle.pm_words.proofs.Made.{cached_row-at, cached_row-image}
use Rattle.version_lock.specs.Versions.{generation_of, IsGeneration}
use Rattle.data_node.specs.Spots.{Spot, IsTidy, Means}
use Rattle.data_node.specs.Lines.{IsFitLine}
use Rattle.data_node.specs.Lists.{members_from, range_in, IsIn, MakeList}
use Rattle.data_node.proofs.LineLemmas.{fit_alike}
use Rattle.pm_words.specs.Offsets.{version_offset, generation_offset}
use Rattle.image_rules.specs.Nodes.{image_spot}
use Rattle.image_rules.specs.Laws.{KeepsRules}
use Rattle.image_rules.specs.Rules.{IsSpare, line_spot}
use Rattle.image_rules.specs.Sound.{IsSound, IsMapOf}
use Rattle.image_rules.proofs.TidyLemmas.{keeps_sound}
use Rattle.index_law.specs.Facts.{spot_in, map_now}
use Rattle.index_law.specs.Laws.{IsAtRest}
use Rattle.index_law.specs.Lines.{AreFit, line_in}
use Rattle.index_law.specs.Twins.{IsBlank}
use Rattle.index_law.specs.Worlds.{World, facts}
use Rattle.index_law.proofs.Rows.{version_in-here}
use Rattle.index_image_law.proofs.CachedWords.{spots_are, line_at}

-- what is said of the nodes' words is said of the image's
pub in_image : (l : Layout) (words : List ℕ) (P : (ℕ → Spot) → Type 0) → P (spot_in l words) → P (image_spot l (cached_row l words))
in_image l words P = subst P (spots_are l words)

lines_fit : (l : Layout) (words : List ℕ) → AreFit l words → (line : ℕ) → line < 8 * l.callers → IsFitLine l.nodes (line_spot l (cached_row l words) line)
lines_fit l words fit line here =
    let s : Spot = line_in l words (line / 8) (line % 8) in
    fit_alike l.nodes s (line_spot l (cached_row l words) line) (λ offset within. line_at l words (line / 8) (line % 8) offset (omega arith) (omega arith) within)
    (fit (line / 8) (line % 8) s (λ offset. inr refl))

-- words that have no use are blank
blank : (l : Layout) (words : List ℕ) → ((w : Word) → IsBlank w → at l words (Cached w) ≡ 0) → (w : Word) → IsSpare w → word_at l (cached_row l words) w ≡ 0
blank l words none (Header o) is = cached_row-at l words (Header o) is.1 ∙ none (Header o) is
blank l words none (Root o) is = cached_row-at l words (Root o) is.1 ∙ none (Root o) is
blank l words none (Node n o) is = absurd is
blank l words none (Line c j o) is = absurd is
blank l words none (Leaf k o) is = absurd is
blank l words none (Cell kind k o) is = absurd is

-- the header tells the run
pub generation_is : (w : World) → IsAtRest w → word_at w.layout (cached_row w.layout w.words) (Header generation_offset) ≡ w.generation
generation_is w rest = cached_row-at w.layout w.words (Header generation_offset) (omega arith) ∙ rest.front.generation

rules : (w : World) → IsAtRest w → AreFit w.layout w.words → KeepsRules w.layout (cached_row w.layout w.words)
rules w rest fit =
    let l = w.layout in
    let words = w.words in
    let generation = generation_is w rest in
    record {
      generation = subst IsGeneration (sym generation) rest.run;
      spare = blank l words rest.front.blank;
      versions = λ n here.
          let word : word_at l (cached_row l words) (Node n version_offset) ≡ (facts w).version n =
          cached_row-at l words (Node n version_offset) (here, omega arith) ∙ sym (version_in-here l words n here) in
          subst (λ (v : ℕ). generation_of v ≤ word_at l (cached_row l words) (Header generation_offset)) (sym word) (let known = rest.versions n here in omega (arith, generation));
      list = in_image l words (λ now. MakeList l.nodes now (members_from now l.nodes 0)) rest.list;
      tidy = in_image l words (λ now. (n : ℕ) → IsIn (members_from now l.nodes 0) n → IsTidy l.slots (now n)) (λ n listed. (rest.settled n listed).means.tidy);
      lines = lines_fit l words fit;
    }

pub rest_is_sound : (w : World) → IsAtRest w → AreFit w.layout w.words → IsSound w.layout (cached_row w.layout w.words)
rest_is_sound w rest fit = keeps_sound w.layout (cached_row w.layout w.words) (cached_row-image w.layout w.words rest.row) (rules w rest fit)

-- and keeps the map
pub rest_keeps : (w : World) → IsAtRest w → IsMapOf w.layout (cached_row w.layout w.words) (map_now (facts w))
rest_keeps w rest =
    let l = w.layout in
    record {
      means = in_image l w.words (λ now. (n : ℕ) → IsIn (members_from now l.nodes 0) n → Means l.slots (range_in (members_from now l.nodes 0) n) (now n) (map_now (facts w)))
          (λ n listed. (rest.settled n listed).means);
      names = rest.named;
    }
