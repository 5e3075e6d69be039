-- What a party knows of the two nodes that it may merge, by the slots that are live.
use Rattle.std.proofs.Common.{◌≡◌, ℕ, zero, suc, ◌+◌, ◌≤◌, Bool, true, false, cond, List, refl, sym, ap, ◌∙◌, subst, arith}
use Rattle.std.specs.Prelude.{◌==◌, ◌&&◌}
use Rattle.std.specs.Int.{bit_at}
use Rattle.std.proofs.lemmas.Bool.{eqb-true}
use Rattle.cat_key.specs.Names.{bytes_of}
use Rattle.cat_key.proofs.Packing.{bytes_of-words_of}
use Rattle.pm_words.specs.Offsets.{bitmap_offset}
use Rattle.data_node.specs.Spots.{Spot, IsTidy, name_words}
use Rattle.data_node.specs.Lists.{StaysIn}
use Rattle.data_node.specs.Weights.{has_name_in, names_in}
use Rattle.index_law.specs.Facts.{range_of}
use Rattle.index_law.specs.Worlds.{facts}
use Rattle.index_law.specs.Lawful.{SureHolds, SureMeets, Sure}
use Rattle.index_law.specs.LoneShapes.{live_in, MeetsCrowded, HoldsAlone}
use Rattle.index_law.proofs.Own.{clean_means}
use Rattle.index_law.proofs.Switch.{inside_listed}

-- a node that has no name out of its range has as many names there as live slots
pub names_live : (slots count : ℕ) (range : List ℕ → Bool) (s : Spot) → count ≤ slots → IsTidy slots s → StaysIn slots range s → names_in count range s ≡ live_in count s
names_live slots zero range s within tidy stays = refl
names_live slots (suc slot) range s within tidy stays =
    let rest = names_live slots slot range s (omega arith) tidy stays in
    let same : has_name_in range s slot ≡ (bit_at (s bitmap_offset) slot == 1) =
    elim (bit_at (s bitmap_offset) slot == 1) as (λ b. (bit_at (s bitmap_offset) slot == 1) ≡ b → (b && range (bytes_of (name_words s slot))) ≡ b) [
      | true ↦ λ is.
          let live = eqb-true (bit_at (s bitmap_offset) slot) 1 is in
          let who = tidy.named slot (omega arith) live in
          let text : bytes_of (name_words s slot) ≡ who.0 = ap bytes_of (sym who.2) ∙ bytes_of-words_of who.0 who.1 in
          ap range text ∙ elim (range who.0) as (λ b. range who.0 ≡ b → b ≡ true) [
            | true ↦ λ _. refl
            | false ↦ λ out. absurd (stays who.0 who.1 out slot (omega arith) live (sym who.2))
          ] refl
      | false ↦ λ _. refl
    ] refl in
    (λ i. cond (same i) 1 0 + rest i)

pub meets_crowded : MeetsCrowded
meets_crowded w i p n lock h right lawful there stage many =
    let l = w.layout in
    let g = w.generation in
    let f = facts w in
    let knows : SureHolds l g f p.caller p.index p.since n lock h × SureMeets l g f n h right = subst (Sure l g f p.caller p.index p.since) stage (lawful.sure i p there) in
    let means = clean_means f p.caller p.index p.since n lock h knows.0 knows.1.still.pending in
    let settled = knows.1.settled in
    let own = names_live l.slots l.slots (range_of l f n) (f.now n) (omega arith) means.tidy knows.0.stays in
    let other = names_live l.slots l.slots (range_of l f right.node) (f.now right.node) (omega arith) settled.means.tidy settled.stays in (
      record {
        listed = inside_listed l f lawful.list n h.name knows.0.inside;
        right = right.node;
        leads = knows.1.leads;
        nonzero = knows.1.nonzero;
        means = means;
        means_right = settled.means;
        many = omega arith;
      },
      knows.0.inside,
    )

pub holds_alone : HoldsAlone
holds_alone w i p n lock h lawful there stage ends =
    let l = w.layout in
    let f = facts w in
    let knows : SureHolds l w.generation f p.caller p.index p.since n lock h = subst (Sure l w.generation f p.caller p.index p.since) stage (lawful.sure i p there) in
    ((inside_listed l f lawful.list n h.name knows.inside, ends), knows.inside)
