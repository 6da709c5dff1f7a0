-- Legs read one after another into their table.
use Rattle.std.proofs.Common.{◌≡◌, ℕ, zero, suc, ◌+◌, ◌-◌, ◌<◌, ◌≤◌, Bool, true, false, cond, eqb, ℤ, pos, List, [], ◌∷◌, ◌++◌, length, take, drop, set, replicate, Some, None, codes, Option, sym, refl, ap, ◌∙◌, arith}
use Rattle.std.proofs.lemmas.Bool.{cond-true, cond-false}
use Rattle.std.proofs.Math.Dec.{eqb-suc-suc}
use Rattle.std.proofs.lemmas.List.{append_assoc, append-nil, take-append-drop, length-take-le, take_more_set, drop-drop, drop-set-lt, drop-replicate, length-set}
use Rattle.std.specs.Str.{bytes_eq}
use Rattle.fleet.specs.declared.axes.Xyz.{Xyz}
use Rattle.console_text.specs.Numbers.{unsigned_in}
use Rattle.console_read.specs.Shapes.{Words, at, and_then, ended_of, leg_text, end_text, legs_text, blank, table, plan_of, plan_from}
use Rattle.console_read.specs.declared.command.Command.TheVariants.{File}
use Rattle.console_read.specs.declared.command.LegText.{LegText}

abbrev Read : Type 0
Read = Option (List LegText × ℕ)

-- legs, and what comes after them
abbrev pub after : List LegText → Option (List LegText × ℕ) → Option (List LegText × ℕ)
after ls o = and_then o (λ p. Some (ls ++ p.0, p.1))

-- the first k places of a table hold the legs so far, which with what the words ws tell are what all the words tell
pub record SoFar (legs : List LegText) (k : ℕ) (ws all : Words) : Type 0 where
  pub places : length legs ≡ 20
  pub few : k ≤ 20
  pub past : drop k legs ≡ replicate (20 - k) blank
  pub told : after (take k legs) (legs_text (20 - k) ws) ≡ legs_text 20 all

after_none : (o : Read) → after [] o ≡ o
after_none None = refl
after_none (Some p) = refl

after_more : (ls : List LegText) (l : LegText) (o : Read) → after (ls ++ (l ∷ [])) o ≡ after ls (and_then o (λ p. Some (l ∷ p.0, p.1)))
after_more ls l None = refl
after_more ls l (Some p) = ap (λ (ms : List LegText). Some (ms, p.1)) (append_assoc ls (l ∷ []) p.0)

abbrev made : ℕ → ℤ → ℤ → ℤ → LegText
made n x y z = record { start = n; speed = record { x = x; y = y; z = z } }

pub is_blank : (l : LegText) → l.start ≡ 0 → l.speed.x ≡ pos 0 → l.speed.y ≡ pos 0 → l.speed.z ≡ pos 0 → l ≡ blank
is_blank l e x y z =
    ap (λ (n : ℕ). made n l.speed.x l.speed.y l.speed.z) e ∙ ap (λ (n : ℤ). made 0 n l.speed.y l.speed.z) x ∙ ap (λ (n : ℤ). made 0 (pos 0) n l.speed.z) y ∙ ap (made 0 (pos 0) (pos 0)) z

pub begun : (l : LegText) (all : Words) → l ≡ blank → SoFar (replicate 20 l) 0 all all
begun l all e = record {
  places = refl;
  few = omega arith;
  past = ap (replicate 20) e;
  told = after_none (legs_text 20 all);
}

-- a word that is not `end`
not_end : (n : ℕ) (ws : Words) → bytes_eq (at ws 0) (codes "end") ≡ false → legs_text (suc n) ws ≡ and_then (leg_text ws) (λ l. and_then (legs_text n (drop 5 ws)) (λ p. Some (l ∷ p.0, p.1)))
unfolding legs_text
not_end n ws h = cond-false (bytes_eq (at ws 0) (codes "end")) _ _ h

first_leg : (n : ℕ) (w : List ℕ) (t : Words) (l : LegText) (v : Words) → bytes_eq w (codes "end") ≡ false → leg_text (w ∷ t) ≡ Some l → v ≡ drop 4 t
    → legs_text (suc n) (w ∷ t) ≡ and_then (legs_text n v) (λ p. Some (l ∷ p.0, p.1))
first_leg n w t l v h e d =
    not_end n (w ∷ t) h
    ∙ ap (λ (o : Option LegText). and_then o (λ l. and_then (legs_text n (drop 4 t)) (λ p. Some (l ∷ p.0, p.1)))) e
    ∙ ap (λ (v : Words). and_then (legs_text n v) (λ p. Some (l ∷ p.0, p.1))) (sym d)

no_leg_more : (ws : Words) → bytes_eq (at ws 0) (codes "end") ≡ false → legs_text zero ws ≡ None
unfolding legs_text
no_leg_more ws h = cond-false (bytes_eq (at ws 0) (codes "end")) _ _ h

no_leg : (n : ℕ) (ws : Words) → bytes_eq (at ws 0) (codes "end") ≡ false → (0 < n → leg_text ws ≡ None) → legs_text n ws ≡ None
no_leg zero ws h e = no_leg_more ws h
no_leg (suc n) ws h e = not_end n ws h ∙ ap (λ (o : Option LegText). and_then o (λ l. and_then (legs_text n (drop 5 ws)) (λ p. Some (l ∷ p.0, p.1)))) (e (omega arith))

at_end : (n : ℕ) (ws : Words) → bytes_eq (at ws 0) (codes "end") ≡ true → legs_text n ws ≡ and_then (end_text ws) (λ e. Some ([], e))
unfolding legs_text
at_end zero ws h = cond-true (bytes_eq (at ws 0) (codes "end")) _ _ h
at_end (suc n) ws h = cond-true (bytes_eq (at ws 0) (codes "end")) _ _ h

either_none : (b : Bool) → cond {A = Option ℕ} b None None ≡ None
either_none true = refl
either_none false = refl

abbrev ended_if : Bool → Option (Unit {0})
ended_if b = cond b (Some tt) None

no_more : (b : Bool) → Some tt ≡ ended_if b → b ≡ true
no_more true h = refl
no_more false h = absurd (cc)

more : (b : Bool) → None ≡ ended_if b → b ≡ false
more true h = absurd (cc)
more false h = refl

module _ (c : ℕ) (p : Xyz ℤ) (legs : List LegText) (k : ℕ) (ws all : Words) (s : SoFar legs k ws all) where
  told_as : (o : Read) → legs_text (20 - k) ws ≡ o → and_then (after (take k legs) o) (λ q. Some (plan_of c p q)) ≡ plan_from c p all
  told_as o h = ap (λ (o : Read). and_then o (λ q. Some (plan_of c p q))) (sym (ap (after (take k legs)) h) ∙ s.told)

  pub no_word : ws ≡ [] → None ≡ plan_from c p all
  no_word h = told_as None (no_leg (20 - k) ws (ap (λ (v : Words). bytes_eq (at v 0) (codes "end")) h) (λ _. ap leg_text h))

module _ (c : ℕ) (p : Xyz ℤ) (legs : List LegText) (k : ℕ) (ws all : Words) (s : SoFar legs k ws all) (w : List ℕ) (t : Words) (h : ws ≡ w ∷ t) where
  pub not_read : bytes_eq w (codes "end") ≡ false → (k < 20 → leg_text (w ∷ t) ≡ None) → None ≡ plan_from c p all
  not_read n e = told_as c p legs k ws all s None (ap (legs_text (20 - k)) h ∙ no_leg (20 - k) (w ∷ t) n (λ q. e (omega arith)))

  pub leg_read : (l : LegText) (v : Words) → k < 20 → bytes_eq w (codes "end") ≡ false → leg_text (w ∷ t) ≡ Some l → v ≡ drop 4 t → SoFar (set legs k l) (k + 1) v all
  leg_read l v few n e d =
      let short : k < length legs = omega (arith, s.places) in
      let less : k < k + 1 = omega arith in
      let one : 20 - k ≡ suc (20 - (k + 1)) = omega arith in
      let i : 20 - k - 1 ≡ 20 - (k + 1) = omega arith in
      let m = 20 - (k + 1) in
      let more : legs_text (20 - k) ws ≡ and_then (legs_text m v) (λ p. Some (l ∷ p.0, p.1))
      = ap (legs_text (20 - k)) h ∙ ap (λ (n : ℕ). legs_text n (w ∷ t)) one ∙ first_leg m w t l v n e d in
      record {
        places = length-set legs k l ∙ s.places;
        few = omega arith;
        past = drop-set-lt (k + 1) legs k l less ∙ sym (drop-drop 1 k legs) ∙ ap (drop 1) s.past ∙ drop-replicate 1 (20 - k) blank ∙ ap (λ (n : ℕ). replicate n blank) i;
        told = ap (λ (ls : List LegText). after ls (legs_text m v)) (take_more_set legs k l short) ∙ after_more (take k legs) l (legs_text m v) ∙ sym (ap (after (take k legs)) more) ∙ s.told;
      }

  module _ (n : bytes_eq w (codes "end") ≡ true) where
    end_then : (v : List ℕ) (u : Words) (o : Option ℕ) → t ≡ v ∷ u → unsigned_in 65535 v ≡ o → end_text (w ∷ t) ≡ cond (eqb (length u) 0) o None
    end_then v u o e q = ap (λ (t : Words). end_text (w ∷ t)) e ∙ ap (λ (b : Bool). cond b (unsigned_in 65535 v) None) (eqb-suc-suc (suc (length u)) 1 ∙ eqb-suc-suc (length u) 0) ∙ ap (λ (o : Option ℕ). cond (eqb (length u) 0) o None) q

    end_as : (o : Option ℕ) → end_text (w ∷ t) ≡ o → and_then (after (take k legs) (and_then o (λ e. Some ([], e)))) (λ q. Some (plan_of c p q)) ≡ plan_from c p all
    end_as o e = told_as c p legs k ws all s (and_then o (λ e. Some ([], e))) (ap (legs_text (20 - k)) h ∙ at_end (20 - k) (w ∷ t) n ∙ ap (λ (o : Option ℕ). and_then o (λ e. Some ([], e))) e)

    pub end_missing : t ≡ [] → None ≡ plan_from c p all
    end_missing e = end_as None (ap (λ (t : Words). end_text (w ∷ t)) e)

    pub end_unread : (v : List ℕ) (u : Words) → t ≡ v ∷ u → unsigned_in 65535 v ≡ None → None ≡ plan_from c p all
    end_unread v u e q = end_as None (end_then v u None e q ∙ either_none (eqb (length u) 0))

    pub end_followed : (v : List ℕ) (u : Words) → t ≡ v ∷ u → None ≡ ended_of u → None ≡ plan_from c p all
    end_followed v u e q = end_as None (end_then v u (unsigned_in 65535 v) e refl ∙ cond-false (eqb (length u) 0) _ None (more (eqb (length u) 0) q))

    pub end_read : (v : List ℕ) (u : Words) (m : ℕ) → t ≡ v ∷ u → unsigned_in 65535 v ≡ Some m → Some tt ≡ ended_of u
        → Some (File (record { craft = c; at = p; legs = legs; count = k; end = m })) ≡ plan_from c p all
    end_read v u m e q r =
        let front = take k legs in
        let short : k ≤ length legs = omega (arith, s.places, s.few) in
        let n : length front ≡ k = length-take-le k legs short in
        let filled : legs ≡ table front = sym (ap (λ (i : ℕ). front ++ replicate (20 - i) blank) n ∙ ap (λ (ls : List LegText). front ++ ls) (sym s.past) ∙ take-append-drop k legs) in
        ap (λ (ls : List LegText). Some (File (record { craft = c; at = p; legs = ls; count = k; end = m }))) filled
        ∙ ap (λ (i : ℕ). Some (File (record { craft = c; at = p; legs = table front; count = i; end = m }))) (sym n)
        ∙ ap (λ (ls : List LegText). Some (plan_of c p (ls, m))) (sym (append-nil front))
        ∙ end_as (Some m) (end_then v u (Some m) e q ∙ cond-true (eqb (length u) 0) (Some m) None (no_more (eqb (length u) 0) r))
