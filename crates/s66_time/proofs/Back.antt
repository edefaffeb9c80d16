-- Words of registers that were saved by a push come back by `put_back`, the last first.
use Rattle.std.proofs.Common.{max, cond, ◌||◌, ℕ, ◌+◌, ◌≡◌, ◌<◌, List, [], ◌∷◌, ◌++◌, refl, sym, ap, ◌∙◌, set, get_or, length, take, replicate, arith, inl, inr, set-set}
use Rattle.std.proofs.lemmas.List.{set-get_or, take_more, get_or-replicate, get_or_past, length-replicate}
use Rattle.std.proofs.Math.Bool.{or-false}
use Rattle.s66_isa.specs.Table.{Reg}
use Rattle.s66_isa.specs.{same_reg, has_reg}
use Rattle.s66_isa.proofs.SameRegister.{same_reg-sym, has_reg-append}
use Rattle.s66_isa.proofs.RegisterBits.{raised-twice}
use Rattle.s66_isa.proofs.Lists.{cases_le}
use Rattle.s66_time.specs.{Saved, put_back}

pub put_back-push : (ws : List Saved) (w : Saved) (words : List ℕ) → put_back (ws ++ w ∷ []) words ≡ put_back ws (set words w.place w.word)
put_back-push [] w words = refl
put_back-push (v ∷ ws) w words = ap (λ xs. set xs v.place v.word) (put_back-push ws w words)

-- a word that was saved and then written comes back
pub put_back-saved : (ws : List Saved) (w : Saved) (words : List ℕ) (new : ℕ) → w.word ≡ get_or words w.place 0 → put_back (ws ++ w ∷ []) (set words w.place new) ≡ put_back ws words
put_back-saved ws w words new is =
    put_back-push ws w (set words w.place new)
    ∙ ap (put_back ws) (set-set words w.place new w.word ∙ ap (set words w.place) is ∙ set-get_or words w.place 0)

-- one of the saved words, the last one that is left
pub put_back-last : (ws : List Saved) (i : ℕ) (w : Saved) (words : List ℕ) → i < length ws → w ≡ get_or ws i w → put_back (take (i + 1) ws) words ≡ put_back (take i ws) (set words w.place w.word)
put_back-last ws i w words lt is =
    ap (λ vs. put_back vs words) (take_more ws i w lt) ∙ put_back-push (take i ws) (get_or ws i w) words
    ∙ ap (λ (v : Saved). put_back (take i ws) (set words v.place v.word)) (sym is)

pub zeros : (n i : ℕ) → ◌≡◌ {A = ℕ} (get_or (replicate n 0) i 0) 0
zeros n i =
    elim (cases_le n i) [
      | inl past ↦ get_or_past (replicate n 0) i 0 (omega (arith, length-replicate {A = ℕ} n 0))
      | inr lt ↦ get_or-replicate n i 0 0 lt
    ]

-- the registers so far and one more
has_more : (r : Reg) (rs : List Reg) (i : ℕ) (d : Reg) → i < length rs → has_reg r (take (i + 1) rs) ≡ (has_reg r (take i rs) || same_reg r (get_or rs i d))
has_more r rs i d lt =
    let x : Reg = get_or rs i d in
    ap (has_reg r) (take_more rs i d lt) ∙ has_reg-append r (take i rs) (x ∷ []) ∙ ap (λ t. has_reg r (take i rs) || t) (or-false (same_reg r x))

pub raised-more : (r : Reg) (rs : List Reg) (i : ℕ) (d : Reg) (t w now new : ℕ) → i < length rs → d ≡ get_or rs i d → now ≡ max w (cond (has_reg r (take i rs)) t 0) → new ≡ max now (cond (same_reg d r) t 0) →
    new ≡ max w (cond (has_reg r (take (i + 1) rs)) t 0)
raised-more r rs i d t w now new lt is e1 e2 =
    e2 ∙ ap (λ k. max k (cond (same_reg d r) t 0)) e1 ∙ ap (λ k. max (max w (cond (has_reg r (take i rs)) t 0)) (cond k t 0)) (same_reg-sym d r)
    ∙ raised-twice (has_reg r (take i rs)) (same_reg r d) w t ∙ ap (λ x. max w (cond (has_reg r (take i rs) || same_reg r x) t 0)) is
    ∙ ap (λ k. max w (cond k t 0)) (sym (has_more r rs i d lt))
