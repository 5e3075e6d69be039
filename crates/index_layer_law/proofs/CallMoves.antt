-- What a step of a call on nodes makes of what the law of turns knows.
use Rattle.std.proofs.Common.{◌≡◌, ◌≢◌, ℕ, ◌+◌, ◌==◌, not, ⊎_elim, ◌⊎◌, Bool, true, false, cond, refl, sym, ap, ◌∙◌, arith}
use Rattle.std.proofs.lemmas.Bool.{cases_eq, eq-eqb, ne_eqb}
use Rattle.pm_words.specs.declared.layout.Layout.{Layout}
use Rattle.version_lock.specs.Versions.{is_free_word, is_worn_word, IsFree, IsWorn}
use Rattle.version_lock.proofs.WordTests.{free_word, free_is, worn_word}
use Rattle.data_node.specs.Spots.{updated}
use Rattle.data_node.specs.Lists.{anchor_in}
use Rattle.call_stages.specs.Kinds.{IsContent}
use Rattle.index_law.specs.Facts.{Facts}
use Rattle.index_law.specs.Lawful.{IsOwnLock}
use Rattle.index_law.proofs.Rows.{with_version, with_status, with_word, set_other, anchor-alike}
use Rattle.index_law.proofs.Versions.{unfree, freed-free}
use Rattle.updater_law.specs.Covers.{set_at}
use Rattle.updater_law.specs.Facts.{TurnFacts}
use Rattle.updater_law.specs.OtherSteps.{OtherStep}
use Rattle.index_layer_law.proofs.FactTies.{Rest, known}

-- the facts are the same, or those after a step of another party
abbrev pub Moved : TurnFacts → TurnFacts → Type 0
Moved f f' = (f' ≡ f) ⊎ OtherStep f f'

-- a function of a choice
pub choice : {A B : Type 0} (h : A → B) (b : Bool) (x y : A) → h (cond b x y) ≡ cond b (h x) (h y)
choice h true x y = refl
choice h false x y = refl

pub unheld : (v g : ℕ) → IsFree v g → not (is_free_word v g) ≡ false
unheld v g free = ap not (free_is v g free)

pub is_held : (w g : ℕ) → (IsFree w g → ⊥) → not (is_free_word w g) ≡ true
is_held w g taken = elim (is_free_word w g) as (λ b. is_free_word w g ≡ b → not b ≡ true) [
  | true ↦ λ is. absurd (taken (free_word w g is))
  | false ↦ λ is. refl
] refl

pub not_worn : (w g : ℕ) → (IsWorn w g → ⊥) → is_worn_word w g ≡ false
not_worn w g fresh = elim (is_worn_word w g) as (λ b. is_worn_word w g ≡ b → b ≡ false) [
  | true ↦ λ is. absurd (fresh (worn_word w g is))
  | false ↦ λ is. refl
] refl

-- a lock that was just taken isn't worn
own_unworn : (w g : ℕ) → IsOwnLock g w → is_worn_word w g ≡ false
own_unworn w g own = not_worn w g (λ worn. let count = worn.1 in let small = own.unworn in omega arith)

module _ (l : Layout) (g : ℕ) (f : Facts) (rest : Rest) (holder : ℕ → ℕ) where
  abbrev pub now_known : TurnFacts
  now_known = known l g f holder rest

  -- a lock of a node
  pub lock_path : (n w i : ℕ) → IsOwnLock g w → is_worn_word (f.version n) g ≡ false
      → known l g (with_version f n w) (set_at holder n i) rest ≡ record now_known { held = set_at now_known.held n true; holder = set_at holder n i }
  unfolding set_at
  lock_path n w i own unworn =
      let locked : not (is_free_word w g) ≡ true = is_held w g (unfree w g own) in
      let held : (m : ℕ) → not (is_free_word (cond (m == n) w (f.version m)) g) ≡ cond (m == n) true (not (is_free_word (f.version m) g)) =
      λ m. choice (λ v. not (is_free_word v g)) (m == n) w (f.version m) ∙ ap (λ b. cond (m == n) b (not (is_free_word (f.version m) g))) locked in
      let worn : (m : ℕ) → is_worn_word (cond (m == n) w (f.version m)) g ≡ is_worn_word (f.version m) g =
      λ m. ⊎_elim
      (λ (e : m ≡ n). ap (λ b. is_worn_word (cond b w (f.version m)) g) (eq-eqb m n e) ∙ own_unworn w g own ∙ sym (ap (λ k. is_worn_word (f.version k) g) e ∙ unworn))
      (λ (apart : m ≢ n). ap (λ b. is_worn_word (cond b w (f.version m)) g) (ne_eqb m n apart))
      (cases_eq m n) in
      λ k. record now_known { held = λ m. held m k; holder = set_at holder n i; worn = λ m. worn m k }

  -- its end
  pub unlock_path : (n w : ℕ) → IsOwnLock g w
      → known l g (with_version f n (w + 1)) holder rest ≡ record now_known { held = set_at now_known.held n false; worn = set_at now_known.worn n (is_worn_word (w + 1) g) }
  unfolding set_at
  unlock_path n w own =
      let free : not (is_free_word (w + 1) g) ≡ false = unheld (w + 1) g (freed-free w g own) in
      let held : (m : ℕ) → not (is_free_word (cond (m == n) (w + 1) (f.version m)) g) ≡ cond (m == n) false (not (is_free_word (f.version m) g)) =
      λ m. choice (λ v. not (is_free_word v g)) (m == n) (w + 1) (f.version m) ∙ ap (λ b. cond (m == n) b (not (is_free_word (f.version m) g))) free in
      let worn : (m : ℕ) → is_worn_word (cond (m == n) (w + 1) (f.version m)) g ≡ cond (m == n) (is_worn_word (w + 1) g) (is_worn_word (f.version m) g) =
      λ m. choice (λ v. is_worn_word v g) (m == n) (w + 1) (f.version m) in
      λ k. record now_known { held = λ m. held m k; worn = λ m. worn m k }

  -- a status
  pub status_path : (n x : ℕ) → known l g (with_status f n x) holder rest ≡ record now_known { status = set_at f.status n x }
  unfolding set_at
  status_path n x = refl

  -- a word of a node that is none of its anchor
  pub content_path : (n offset y : ℕ) → IsContent offset → known l g (with_word f n offset y) holder rest ≡ now_known
  content_path n offset y content =
      let same : (m : ℕ) → anchor_in ((with_word f n offset y).now m) ≡ anchor_in (f.now m) =
      λ m. anchor-alike (f.now m) ((with_word f n offset y).now m) (λ o low high. set_other f.now n offset y m o (λ e is. ⊎_elim (λ bits. omega arith) (λ far. omega arith) content)) in
      λ k. record now_known { anchor = λ m. same m k }

  -- any word of a node
  pub word_path : (n offset y : ℕ) → known l g (with_word f n offset y) holder rest ≡ record now_known { anchor = set_at now_known.anchor n (anchor_in (updated (f.now n) offset y)) }
  unfolding set_at
  word_path n offset y =
      let same : (m : ℕ) → anchor_in (cond (m == n) (updated (f.now n) offset y) (f.now m)) ≡ cond (m == n) (anchor_in (updated (f.now n) offset y)) (anchor_in (f.now m)) =
      λ m. choice anchor_in (m == n) (updated (f.now n) offset y) (f.now m) in
      λ k. record now_known { anchor = λ m. same m k }

  -- a node's own lock says who holds it
  pub held_is : (n w : ℕ) → f.version n ≡ w → IsOwnLock g w → now_known.held n ≡ true
  held_is n w stands own = ap (λ v. not (is_free_word v g)) stands ∙ is_held w g (unfree w g own)
