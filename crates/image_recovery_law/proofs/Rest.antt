-- What a recovery that came to its end leaves, and recoveries that are broken.
use Rattle.std.proofs.Common.{◌≡◌, ◌≢◌, ℕ, zero, suc, ◌+◌, ◌≤◌, ◌==◌, ◌||◌, true, false, cond, List, [], ◌∷◌, inl}
use Rattle.std.proofs.Common.{inr, refl, sym, subst, ap, ◌∙◌, arith}
use Rattle.std.proofs.lemmas.Bool.{cases_eq, eq-eqb, ne_eqb, lt-ltb}
use Rattle.pm_words.specs.declared.layout.Layout.{Layout}
use Rattle.pm_words.specs.Codes.{gone_status, live_status}
use Rattle.version_lock.specs.Versions.{generation_of, count_of}
use Rattle.data_node.specs.Lists.{ListNode, IsMember, IsIn}
use Rattle.updater_law.specs.Facts.{TurnFacts}
use Rattle.image_recovery_law.specs.Columns.{Columns, anchor_of, layer_kept, IsSound, Mends}
use Rattle.image_recovery_law.specs.Stages.{Stage, Wakes, Sure}
use Rattle.image_recovery_law.specs.Rest.{IsUntaken, Rests, EndsAtRest, is_behind, is_in, recovered_facts}
use Rattle.image_recovery_law.specs.Rest.{RestIsLawful, Recovers, loads, goes, evicts, none, breaks, IsLike}
use Rattle.image_recovery_law.specs.Rest.{BrokenIsSound, BrokenThenWhole}
use Rattle.image_recovery_law.proofs.Alike.{nodes_apart}
use Rattle.image_recovery_law.proofs.Mended.{anchors, mended, same_map}
use Rattle.image_recovery_law.proofs.Mixes.{columns_path, crash_mends, evictions_keep}
use Rattle.image_recovery_law.proofs.Steps.{starts, steps_keep}
use Rattle.updater_row_law.specs.search_layer.proofs.RowLemmas.{even_are_same}

untaken : (version g : ℕ) → generation_of version ≤ g → IsUntaken version (suc g)
untaken version g old = record {
  free = inl (omega arith);
  count = ap (λ b. cond b 0 (count_of version)) (lt-ltb (generation_of version) (suc g) (omega arith));
  unworn = λ worn. let same : generation_of version ≡ suc g = worn.0 in omega arith;
}

pub ends_at_rest : EndsAtRest
ends_at_rest l list o now safe sound room (still, generation, done, exact, empty) =
    let same : (n : ℕ) → anchor_of now n ≡ anchor_of o n = λ n. anchors l list o sound now still.cached n in
    record {
      sound = mended l list o sound now still.cached room;
      same_map = same_map l list o sound now still.cached;
      durable = columns_path now safe (still.even.generation (λ e. cc)) still.even.spare still.even.version (λ n k. still.even.spot n k (λ e. absurd cc)) (λ n k. still.even.line n k (λ e. absurd cc)) (even_are_same now.layer safe.layer still.layer);
      generation = generation;
      empty = empty;
      exact = λ key node. (
        λ leads. let has = (exact key node).0 leads in (has.0, same node ∙ has.1),
        λ has. (exact key node).1 (has.0, sym (same node) ∙ has.1),
      );
      stays = λ n is. elim (done n is) [ inl among ↦ absurd among | inr stays ↦ stays ];
      untaken = λ n lt. subst (IsUntaken (now.version n)) (sym generation)
          (untaken (now.version n) o.generation (subst (λ v. generation_of v ≤ o.generation) (sym (still.cached.nodes.version n)) (sound.nodes.versions n lt)));
    }

-- the list as a test
behind_is : (list : List ListNode) (n : ℕ) → is_behind list n ≡ true → IsMember list n
behind_is [] n is = absurd cc
behind_is (m ∷ behind) n is = elim (cases_eq n m.node) [
  | inl e ↦ inl e
  | inr ne ↦ inr (behind_is behind n (sym (ap (λ b. b || is_behind behind n) (ne_eqb n m.node ne)) ∙ is))
]

is_behind-true : (list : List ListNode) (n : ℕ) → IsMember list n → is_behind list n ≡ true
is_behind-true [] n is = absurd is
is_behind-true (m ∷ behind) n (inl e) = ap (λ b. b || is_behind behind n) (eq-eqb n m.node e)
is_behind-true (m ∷ behind) n (inr later) = elim (n == m.node) as (λ b. (b || is_behind behind n) ≡ true) [ true ↦ refl | false ↦ is_behind-true behind n later ]

in_is : (list : List ListNode) (n : ℕ) → is_in list n ≡ true → IsIn list n
in_is list n is = elim (cases_eq n 0) [
  | inl e ↦ inl e
  | inr ne ↦ inr (behind_is list n (sym (ap (λ b. b || is_behind list n) (ne_eqb n 0 ne)) ∙ is))
]

is_in-true : (list : List ListNode) (n : ℕ) → IsIn list n → is_in list n ≡ true
is_in-true list n (inl e) = ap (λ b. b || is_behind list n) (eq-eqb n 0 e)
is_in-true list n (inr is) = elim (n == 0) as (λ b. (b || is_behind list n) ≡ true) [ true ↦ refl | false ↦ is_behind-true list n is ]

pub rest_is_lawful : RestIsLawful
rest_is_lawful l list o now safe c stamp rests =
    let f : TurnFacts = recovered_facts l list now safe in
    let lit : (n : ℕ) → is_in list n ≡ true → f.status n ≡ live_status = λ n is. ap (λ b. cond b 1 0) is in
    let not_gone : (n : ℕ) → f.status n ≢ gone_status = λ n. elim (is_in list n) as (λ b. cond {A = ℕ} b 1 0 ≡ 2 → ⊥) [ true ↦ λ (e : suc zero ≡ 2). omega arith | false ↦ λ (e : zero ≡ 2). omega arith ] in
    record {
      stamped_by = stamp;
      durable = λ k. ap (λ i. layer_kept l i k) rests.durable;
      led = λ key node leads.
          let has = (rests.exact key node).0 leads in
          record { anchor = has.1; status = λ e. let one : 1 ≡ f.status node = sym (lit node (is_in-true list node has.0)) in let no_way : 1 ≡ 0 = one ∙ e in absurd cc; stamp = refl; not_freed = tt };
      covered = λ key node bare. (
        λ leads. let has = (rests.exact key node).0 leads in (is_in-true list node has.0, has.1),
        λ has. (rests.exact key node).1 (in_is list node has.0, has.1),
      );
      apart = λ n m is is' same. nodes_apart now.spot list rests.sound.nodes.makes.lowest rests.sound.nodes.makes.chain rests.sound.nodes.makes.rise n m (in_is list n is) (in_is list m is') same;
      live = λ n is. lit n is;
      marked = λ n ne. absurd (ne refl);
      owned = λ n gone bare. absurd (not_gone n gone);
      ready = λ j ready. absurd (let no_way : 0 ≡ 2 = sym (rests.empty j) ∙ ready in cc);
      merges = λ j ready kind. absurd (let no_way : 0 ≡ 2 = sym (rests.empty j) ∙ ready in cc);
      sure = tt;
    }

-- what holds at every moment of a recovery
run_is_sure : (l : Layout) (list : List ListNode) (o now safe : Columns) (s : Stage) → IsSound l list o → Recovers l list o s now safe → Sure l list o s now safe
run_is_sure l list o now safe s sound loads = starts l list o sound
run_is_sure l list o now' safe' s' sound (goes {s = s} {now = now} {safe = safe} run step) = steps_keep l list o now safe now' safe' s s' sound (run_is_sure l list o now safe s sound run) step
run_is_sure l list o now mix s sound (evicts {safe = safe} run is) = evictions_keep l list o now safe mix s sound (run_is_sure l list o now safe s sound run) is

pub broken_is_sound : BrokenIsSound
broken_is_sound l list o i k sound none = record { sound = sound; same_map = λ m. (λ x. x, λ x. x); least = omega arith; most = omega arith }
broken_is_sound l list o mix k sound (breaks {k = fewer} {i = i} {now = now} {safe = safe} {s = s} broken room run is) =
    let before : IsLike l list o fewer i = broken_is_sound l list o i fewer sound broken in
    let mends : Mends l list i mix = crash_mends l list i now safe mix s before.sound (run_is_sure l list i now safe s before.sound run) is in
    let low : o.generation ≤ i.generation = before.least in
    let high : i.generation ≤ o.generation + fewer = before.most in
    record {
      sound = mended l list i before.sound mix mends room;
      same_map = λ m.
          let first = before.same_map m in
          let second = same_map l list i before.sound mix mends m in
          (λ x. second.0 (first.0 x), λ x. first.1 (second.1 x));
      least = elim mends.nodes.generation [ inl e ↦ let a : mix.generation ≡ i.generation = e in omega arith | inr e ↦ let a : mix.generation ≡ suc i.generation = e in omega arith ];
      most = elim mends.nodes.generation [ inl e ↦ let a : mix.generation ≡ i.generation = e in omega arith | inr e ↦ let a : mix.generation ≡ suc i.generation = e in omega arith ];
    }

pub broken_then_whole : BrokenThenWhole
broken_then_whole l list o i now safe k sound broken room run =
    let before : IsLike l list o k i = broken_is_sound l list o i k sound broken in
    let rests : Rests l list i now safe = ends_at_rest l list i now safe before.sound room (run_is_sure l list i now safe Wakes before.sound run) in
    record {
      rests = rests;
      same_map = λ m.
          let first = before.same_map m in
          let second = rests.same_map m in
          (λ x. second.0 (first.0 x), λ x. first.1 (second.1 x));
    }
