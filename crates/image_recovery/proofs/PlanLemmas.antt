-- How moves are planned, one after another.
use Rattle.std.proofs.Common.{◌≡◌, ◌≢◌, ℕ, suc, ◌+◌, ◌≤◌, ◌⊎◌, ◌↔◌, Bool, true, false, List, [], ◌∷◌, ◌++◌, length}
use Rattle.std.proofs.Common.{map, append_assoc, inl, inr, refl, sym, subst, ap, ◌∙◌, Result, Ok, Err, arith}
use Rattle.std.specs.Prelude.{IsTrue, IfOk}
use Rattle.std.proofs.lemmas.Bool.{cases_eq, false≢true}
use Rattle.std.proofs.lemmas.List.{map-append, append-nil}
use Rattle.pm_words.specs.Images.{Row}
use Rattle.pm_words.specs.Offsets.{bitmap_offset, next_offset}
use Rattle.data_node.specs.Slots.{IsLive}
use Rattle.data_node.specs.Spots.{Spot}
use Rattle.data_node.specs.Lists.{ListNode, IsIn, IsChain, IsMember, Rise, StaysIn, range_in}
use Rattle.data_node.proofs.ListLemmas.{members_few}
use Rattle.data_node.proofs.SpotLemmas.{updated-same, name_words-updated}
use Rattle.image_rules.specs.Sound.{IsSound}
use Rattle.image_rules.proofs.TidyLemmas.{sound_keeps}
use Rattle.image_recovery_law.specs.updater_row_law.specs.Columns.{line_count}
use Rattle.image_recovery_law.specs.Stages.{Stage, Begins, Trims, Unsets, Sets, Empties, nodes_behind, HasAnchor}
use Rattle.image_recovery_law.specs.Stages.{LacksAnchor}
use Rattle.image_recovery_law.specs.Moves as law
use Rattle.image_recovery_law.proofs.SoundColumns.{spots_are}
use Rattle.image_recovery.specs.declared.moves.Move.{Move}
use Rattle.image_recovery.specs.declared.moves.Move.TheVariants.{Raise, Trim, Unset, Set, Empty}
use Rattle.image_recovery.specs.Plans.{columns, list_of, spot_of, move_of, IsPlanFrom, IsPlanOf, PlansTo, IsRaised}
use Rattle.image_recovery.specs.Plans.{TrimsOne, HasAnchorOf}

-- what follows where a call ended well
pub ok_then : {A E : Type 0} (result : Result A E) (P Q : Type 0) → IfOk result (λ _. P) → (P → Q) → IfOk result (λ _. Q)
ok_then (Ok a) P Q holds then = then holds
ok_then (Err e) P Q holds then = tt

-- a line is EMPTY or not, as its test says
pub used_if : (used : Bool) (state : ℕ) → IsTrue used ↔ (state ≢ 0) → used ≡ true → state ≢ 0
used_if used state is set = is.0 set

pub empty_if : (used : Bool) (state : ℕ) → IsTrue used ↔ (state ≢ 0) → used ≡ false → state ≡ 0
empty_if used state is clear = elim (cases_eq state 0) [ inl same ↦ same | inr other ↦ absurd (false≢true (sym clear ∙ is.1 other)) ]

module _ (image : Row) where
  -- it comes to another stage, without a move or with one
  pub passes : (s t : Stage) (moves : List Move) → PlansTo image s moves → ((rest : List law.Move) → IsPlanFrom image t rest → IsPlanFrom image s rest) → PlansTo image t moves
  passes s t moves before step = record { goes_on = λ rest plan. before.goes_on rest (step rest plan) }

  pub makes_move : (s t : Stage) (moves : List Move) (next : Move) → PlansTo image s moves → ((rest : List law.Move) → IsPlanFrom image t rest → IsPlanFrom image s (move_of next ∷ rest))
      → PlansTo image t (moves ++ next ∷ [])
  makes_move s t moves next before step = record {
    goes_on = λ rest plan.
        let same : map move_of (moves ++ next ∷ []) ++ rest ≡ map move_of moves ++ (move_of next ∷ rest) = ap (λ (front : List law.Move). front ++ rest) (map-append move_of moves (next ∷ [])) ∙ append_assoc (map move_of moves) (move_of next ∷ []) rest in
        subst (IsPlanFrom image Begins) (sym same) (before.goes_on (move_of next ∷ rest) (step rest plan));
  }

  -- the first move
  pub raised : IsRaised image ([] ++ Raise ∷ [])
  raised = record { goes_on = λ rest plan. law.raise plan }

  -- of a line
  module _ (line : ℕ) (moves : List Move) where
    one : suc line ≡ line + 1
    one = omega arith

    pub no_unset : PlansTo image (Unsets line) moves → ((columns image).line line 0 ≡ 0) ⊎ HasAnchor (list_of image) (columns image) line → PlansTo image (Unsets (line + 1)) moves
    no_unset before why = subst (λ k. PlansTo image (Unsets k) moves) one (passes (Unsets line) (Unsets (suc line)) moves before (λ rest plan. law.leaves_unset line why plan))

    pub unset : PlansTo image (Unsets line) moves → (columns image).line line 0 ≢ 0 → LacksAnchor (list_of image) (columns image) line → PlansTo image (Unsets (line + 1)) (moves ++ Unset line ∷ [])
    unset before busy lacks = subst (λ k. PlansTo image (Unsets k) (moves ++ Unset line ∷ [])) one (makes_move (Unsets line) (Unsets (suc line)) moves (Unset line) before (λ rest plan. law.unset_line line busy lacks plan))

    pub no_set : PlansTo image (Sets line) moves → ((columns image).line line 0 ≡ 0) ⊎ LacksAnchor (list_of image) (columns image) line → PlansTo image (Sets (line + 1)) moves
    no_set before why = subst (λ k. PlansTo image (Sets k) moves) one (passes (Sets line) (Sets (suc line)) moves before (λ rest plan. law.leaves_set line why plan))

    pub set : (n : ℕ) → PlansTo image (Sets line) moves → (columns image).line line 0 ≢ 0 → HasAnchorOf image line n → PlansTo image (Sets (line + 1)) (moves ++ Set line n ∷ [])
    set n before busy has = subst (λ k. PlansTo image (Sets k) (moves ++ Set line n ∷ [])) one (makes_move (Sets line) (Sets (suc line)) moves (Set line n) before (λ rest plan. law.set_line line n busy has.listed has.same plan))

    pub no_empty : PlansTo image (Empties line) moves → (columns image).line line 0 ≡ 0 → PlansTo image (Empties (line + 1)) moves
    no_empty before none = subst (λ k. PlansTo image (Empties k) moves) one (passes (Empties line) (Empties (suc line)) moves before (λ rest plan. law.leaves_empty line none plan))

    pub empty : PlansTo image (Empties line) moves → (columns image).line line 0 ≢ 0 → PlansTo image (Empties (line + 1)) (moves ++ Empty line ∷ [])
    empty before busy = subst (λ k. PlansTo image (Empties k) (moves ++ Empty line ∷ [])) one (makes_move (Empties line) (Empties (suc line)) moves (Empty line) before (λ rest plan. law.empty_line line busy plan))

  -- to the next phase
  pub all_unset : (line : ℕ) (moves : List Move) → line_count image.layout ≤ line → PlansTo image (Unsets line) moves → PlansTo image (Sets 0) moves
  all_unset line moves past before = passes (Unsets line) (Sets 0) moves before (λ rest plan. law.to_sets line past plan)

  pub all_set : (line : ℕ) (moves : List Move) → line_count image.layout ≤ line → PlansTo image (Sets line) moves → PlansTo image (Empties 0) moves
  all_set line moves past before = passes (Sets line) (Empties 0) moves before (λ rest plan. law.to_empties line past plan)

  pub all_empty : (line : ℕ) (moves : List Move) → line_count image.layout ≤ line → PlansTo image (Empties line) moves → IsPlanOf image moves
  all_empty line moves past before = subst (IsPlanFrom image Begins) (append-nil (map move_of moves)) (before.goes_on [] (law.ends line past))

  -- of a node
  module _ (n : ℕ) (among : IsIn (list_of image) n) (moves : List Move) (bits : ℕ) (trims : law.TrimsNode image.layout (list_of image) (columns image) n bits) where
    pub trim : TrimsOne image n moves (moves ++ Trim n bits ∷ [])
    trim = record { goes = λ left before. makes_move (Trims (n ∷ left)) (Trims left) moves (Trim n bits) before (λ rest plan. law.trim n bits among trims plan) }

    -- the bitmap that it has already
    pub no_trim : bits ≡ spot_of image n bitmap_offset → TrimsOne image n moves moves
    no_trim same =
        let o = columns image in
        let here : bits ≡ o.spot n bitmap_offset = same ∙ ap (λ (now : ℕ → Spot). now n bitmap_offset) (sym (spots_are image.layout image.words)) in
        let stays : StaysIn image.layout.slots (range_in (list_of image) n) (o.spot n) = λ name is outside slot lt live words.
        trims.stays name is outside slot lt (subst (λ b. IsLive b slot) (sym (updated-same (o.spot n) bitmap_offset bits ∙ here)) live)
        (name_words-updated (o.spot n) bitmap_offset bits slot (λ k less at. omega arith) ∙ words) in
        record { goes = λ left before. passes (Trims (n ∷ left)) (Trims left) moves before (λ rest plan. law.leaves_node n among stays plan) }

  -- A walk along the list came to this node, after so many others, and planned what these need.
  pub record WalksTo (position node : ℕ) (moves : List Move) : Type 0 where
    pub behind : List ListNode
    pub chain : IsChain (spot_of image) node behind
    pub here : IsIn (list_of image) node
    pub within : (n : ℕ) → IsMember behind n → IsIn (list_of image) n
    pub few : length behind + position ≤ image.layout.nodes
    pub planned : PlansTo image (Trims (node ∷ nodes_behind behind)) moves

  pub walk_begins : IsSound image.layout image.words → (moves : List Move) → IsRaised image moves → WalksTo 0 0 moves
  walk_begins sound moves planned =
      let keeps = sound_keeps image.layout image.words sound in
      let makes = keeps.list in
      let few = members_few (spot_of image) 0 image.layout.nodes (list_of image) makes.chain (subst (λ least. Rise least (list_of image)) (sym makes.lowest) makes.rise) makes.within in
      record { behind = list_of image; chain = makes.chain; here = inl refl; within = λ n among. inr among; few = omega arith; planned = planned }

  -- it goes on to the node behind it, or has come to the end
  module _ (position node : ℕ) (before moves : List Move) (trims : TrimsOne image node before moves) where
    goes_on : (behind : List ListNode) → IsChain (spot_of image) node behind → ((n : ℕ) → IsMember behind n → IsIn (list_of image) n) → length behind + position ≤ image.layout.nodes
        → PlansTo image (Trims (node ∷ nodes_behind behind)) before → (next : ℕ) → next ≡ spot_of image node next_offset → next ≢ 0 → WalksTo (position + 1) next moves
    goes_on [] chain within few planned next is leads = absurd (leads (is ∙ chain))
    goes_on (m ∷ behind) chain within few planned next is leads =
        let there : next ≡ m.node = is ∙ chain.0 in
        subst (λ n. WalksTo (position + 1) n moves) (sym there) (record {
          behind = behind;
          chain = chain.3;
          here = within m.node (inl refl);
          within = λ n among. within n (inr among);
          few = omega arith;
          planned = trims.goes (m.node ∷ nodes_behind behind) planned;
        })

    ends : (behind : List ListNode) → IsChain (spot_of image) node behind → PlansTo image (Trims (node ∷ nodes_behind behind)) before → spot_of image node next_offset ≡ 0 → PlansTo image (Unsets 0) moves
    ends [] chain planned none = passes (Trims []) (Unsets 0) moves (trims.goes [] planned) (λ rest plan. law.to_unsets plan)
    ends (m ∷ behind) chain planned none = absurd (chain.1 (sym chain.0 ∙ none))

    pub walk_on : WalksTo position node before → (next : ℕ) → next ≡ spot_of image node next_offset → next ≢ 0 → WalksTo (position + 1) next moves
    walk_on walks next is leads = goes_on walks.behind walks.chain walks.within walks.few walks.planned next is leads

    pub walk_ends : WalksTo position node before → spot_of image node next_offset ≡ 0 → PlansTo image (Unsets 0) moves
    walk_ends walks none = ends walks.behind walks.chain walks.planned none
