-- What proofs use of the kit: paths, logic, lists, numbers, and the rulesets of omega and of needs; and `clash`.
pub use Prim.Native.Nat.{◌%◌, ◌*◌, ◌+◌, ◌-◌, ◌/◌, ◌<◌, ◌^◌, ◌≤◌, min, suc, zero, ℕ}
pub use borrow.Author.Rules.{rules}
pub use borrow.Author.Tests.{eq-eqb, eqb-false, eqb-true, le-leb, le-ltb, leb-false, leb-true, lt-leb, lt-ltb, ltb-false, ltb-true, ne_eqb, not-false}
pub use borrow.Author.Tests.{not-true}
pub use borrow.Fn.Kinds.{In}
pub use borrow.Fn.PlainCycle.{Measures, and, falls, is}
pub use denote.Enum.Declared.{tag_of}
pub use lib.Dec.{eqb, leb, lit≤, ltb}
pub use lib.IntN.{+ℤ_assoc, +ℤ_idl, +ℤ_idr, +ℤ_one, ◌+ℤ◌, ◌-ℤ◌, negsuc, neg_ℤ, pos, sub_ℕ, suc_ℤ, ℤ}
pub use lib.ListN.{get_or-eq_default as List·getD-eq-default, get_or-map as List·getD-map, drop, drop_of_length-le, get_or, get_or-replicate, length, length-append, length-drop, length-map}
pub use lib.ListN.{length-replicate, length-reverse, length-set, replicate, replicate-append-replicate, set, take, take-append-drop}
pub use lib.Seq.{append_snoc, drop-append-le, drop-append_seam, drop_at, drop-cons, drop-drop, drop-paste, ext_get_or, get_or-set_other, get_or-set_same, get_or-take}
pub use lib.Seq.{length-paste, length-take-le, lt-length-set, paste, paste-suc, paste-zero, set_at, set_comm, set-get_or, set_out, set-set, take_all}
pub use lib.Seq.{take-append-le, take-append_seam, take_at, take-length, take-paste, take-suc, take-suc-set, take-take}
pub use lib.Signed.{lt_z, mag}
pub use mathlib.Core.Bool.{Bool, ◌&&◌, ◌||◌, and_assoc, and-false, and-true, cond, false, not, or_assoc, or-false, or-true, true, true≢false}
pub use mathlib.Core.List.{List, [], ◌++◌, ◌∷◌, append_assoc, append-nil, map, map-id, map-map, reverse, reverse-append, reverse-reverse, reverse_aux}
pub use mathlib.Core.List.{reverse_aux-eq}
pub use mathlib.Core.Logic.{◌≢◌, ◌⊎◌, inl, inr, ⊎_elim}
pub use mathlib.Core.Option.{Option, none, some}
pub use mathlib.Core.Path.{◌∙◌, ◌≡◌, ap, refl, subst, sym}
pub use native.Mathlib.Decide.{dec_le, dec_lt, ℕ_discrete}
pub use native.Mathlib.Nat.{eq-or-lt_of_le, le_of_suc-le-suc, le_refl, min-eq_left, min-eq_right, mul-suc, pow-suc, zero-add}
pub use native.Mathlib.Numerals.{add-one}
pub use native.Mathlib.Omega.{arith}

-- constructors that differ are not equal: where a hypothesis says so, `clash cc` proves anything
pub clash : {A : Type 0} → ◌≡◌ {A = ℕ} 0 1 → A
clash e = absurd (omega arith)
