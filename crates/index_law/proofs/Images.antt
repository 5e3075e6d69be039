-- The image that a crash leaves of a lawful index.
use Rattle.std.proofs.Common.{◌≡◌, ℕ, ◌*◌, ◌/◌, ◌%◌, ◌<◌, ◌≤◌, inl, cond, List, refl, ap, ◌∙◌, sym, subst, arith}
use Rattle.std.proofs.lemmas.Bool.{lt-ltb}
use Rattle.pm_words.specs.declared.layout.Layout.{Layout}
use Rattle.pm_words.specs.Locations.{Word, Header, Root, Node, Line, Leaf, Cell, word_at}
use Rattle.pm_words.specs.Rows.{durable_row}
use Rattle.pm_words.proofs.Made.{durable_row-at, durable_row-image}
use Rattle.version_lock.specs.Versions.{generation_of, IsGeneration}
use Rattle.data_node.specs.Spots.{Spot, IsTidy, Means}
use Rattle.data_node.specs.Lines.{IsFitLine}
use Rattle.data_node.specs.Lists.{members_from, range_in, IsIn, MakeList}
use Rattle.data_node.specs.Weights.{list_weight}
use Rattle.data_node.proofs.LineLemmas.{fit_alike}
use Rattle.pm_words.specs.Offsets.{version_offset, generation_offset}
use Rattle.image_rules.specs.Nodes.{image_spot}
use Rattle.image_rules.specs.Sound.{image_map}
use Rattle.image_rules.specs.Laws.{KeepsRules}
use Rattle.image_rules.specs.Rules.{IsSpare, line_spot}
use Rattle.image_rules.proofs.TidyLemmas.{keeps_sound}
use Rattle.image_rules.proofs.MapLemmas.{sound_has_map}
use Rattle.index_law.specs.Twins.{IsBlank}
use Rattle.index_law.specs.Facts.{durable_spot}
use Rattle.index_law.specs.Worlds.{World}
use Rattle.index_law.specs.Lawful.{Lawful}
use Rattle.index_law.specs.Laws.{IsLeft}
use Rattle.index_law.specs.Lines.{AreFit, safe_line}
use Rattle.index_law.specs.Images.{CrashLeavesSound}
use Rattle.index_law.proofs.Durable.{durable_law}
use Rattle.index_law.proofs.Ends.{crash_law}
use Rattle.index_law.specs.Weights.{weight_sum}
use Rattle.index_law.proofs.Rows.{in_spot}
use Rattle.index_law.proofs.Weights.{crash_weighs}

-- a node's words in the image are the durable ones
image_is : (l : Layout) (words : List ℕ) (n offset : ℕ) → durable_spot l words n offset ≡ image_spot l (durable_row l words) n offset
unfolding image_spot durable_spot
image_is l words n offset = sym (ap (λ (x : ℕ). cond (in_spot l n offset) x 0) (durable_row-at l words (Node n offset)))

-- so what is said of the nodes' durable words is said of the image's
pub in_image : (l : Layout) (words : List ℕ) (P : (ℕ → Spot) → Type 0) → P (durable_spot l words) → P (image_spot l (durable_row l words))
in_image l words P = subst P (λ i n offset. image_is l words n offset i)

pub from_image : (l : Layout) (words : List ℕ) (P : (ℕ → Spot) → Type 0) → P (image_spot l (durable_row l words)) → P (durable_spot l words)
from_image l words P = subst P (sym (λ i n offset. image_is l words n offset i))

-- a log line's words in the image are the durable ones, so it is in order
line_is : (l : Layout) (words : List ℕ) (line offset : ℕ) → line < 8 * l.callers → offset < 8 → safe_line l words (line / 8) (line % 8) offset ≡ line_spot l (durable_row l words) line offset
unfolding safe_line
line_is l words line offset here within =
    let caller : line / 8 < l.callers = omega arith in
    rw (lt-ltb (line / 8) l.callers caller, lt-ltb (line % 8) 8 (omega arith), lt-ltb offset 8 within) (sym (durable_row-at l words (Line (line / 8) (line % 8) offset)))

lines_fit : (l : Layout) (words : List ℕ) → AreFit l words → (line : ℕ) → line < 8 * l.callers → IsFitLine l.nodes (line_spot l (durable_row l words) line)
lines_fit l words fit line here =
    let s : Spot = safe_line l words (line / 8) (line % 8) in
    fit_alike l.nodes s (line_spot l (durable_row l words) line) (λ offset within. sym (line_is l words line offset here within)) (fit (line / 8) (line % 8) s (λ offset. inl refl))

-- words that have no use are blank
spare_blank : (w : Word) → IsSpare w → IsBlank w
spare_blank (Header o) is = is
spare_blank (Root o) is = is
spare_blank (Node n o) is = is
spare_blank (Line c j o) is = is
spare_blank (Leaf k o) is = is
spare_blank (Cell kind k o) is = is

rules : (w : World) → Lawful w → AreFit w.layout w.words → KeepsRules w.layout (durable_row w.layout w.words)
rules w lawful fit =
    let l = w.layout in
    let image = durable_row l w.words in
    let durable = durable_law w lawful in
    let generation : word_at l image (Header generation_offset) ≡ w.generation = durable_row-at l w.words (Header generation_offset) ∙ lawful.durable_front.generation in
    record {
      generation = subst IsGeneration (sym generation) lawful.run;
      spare = λ v spare. durable_row-at l w.words v ∙ lawful.durable_front.blank v (spare_blank v spare);
      versions = λ n here. subst (λ (v : ℕ). generation_of v ≤ word_at l image (Header generation_offset)) (sym (durable_row-at l w.words (Node n version_offset)))
          (let known = lawful.durable_versions n here in omega (arith, generation));
      list = in_image l w.words (λ now. MakeList l.nodes now (members_from now l.nodes 0)) durable.list;
      tidy = in_image l w.words (λ now. (n : ℕ) → IsIn (members_from now l.nodes 0) n → IsTidy l.slots (now n)) (λ n listed. (durable.means n listed).means.tidy);
      lines = lines_fit l w.words fit;
    }

pub image_law : CrashLeavesSound
image_law w lawful fit =
    let l = w.layout in
    let image = durable_row l w.words in
    let sound = keeps_sound l image (durable_row-image l w.words lawful.row) (rules w lawful fit) in
    let keeps = sound_has_map l image sound in
    let left : IsLeft w (image_map l image) = record {
      means = from_image l w.words (λ now. (n : ℕ) → IsIn (members_from now l.nodes 0) n → Means l.slots (range_in (members_from now l.nodes 0) n) (now n) (image_map l image)) keeps.means;
      names = keeps.names;
    } in
    record {
      sound = sound;
      keeps = keeps;
      weighs = in_image l w.words (λ now. list_weight l.slots now (members_from now l.nodes 0) ≤ weight_sum w) (crash_weighs w lawful);
      ends = λ cuts among. crash_law w (image_map l image) cuts lawful left among;
    }
