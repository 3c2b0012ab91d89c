-- What the tests of the steps say, that a message or another call goes through.
use mathlib.Core.Path.{◌≡◌, refl, sym, ap, subst}
use mathlib.Core.Bool.{Bool, true, false, not, ◌&&◌, ◌||◌}
use mathlib.Core.List.{List}
use Prim.Native.Nat.{ℕ}
use native.Mathlib.Omega.{arith}
use lib.Dec.{eqb}
use lib.ListN.{length}
use Rattle.laws.specs.Says.{pick, Says}
use Rattle.laws.proofs.Says.{says_eq, says_le, says_not, says_and, says_or, says_any, says_so}
use Rattle.element.specs.Head.{longest, create, delete_tft, no_operation, operation_of, head_fine}
use Rattle.table.specs.declared.bearer.Role.{Role}
use Rattle.table.specs.declared.bearer.Role.TheVariants.{Idle}
use Rattle.table.specs.declared.bearer.Table.{Table}
use Rattle.table.specs.Bearers.{bearer_count, last_transaction, is_identity, index_of, role_at, transaction_at, is_idle, is_default, is_dedicated, role_of}
use Rattle.table.proofs.Meaning.{idle_says, dedicated_says, range_says, default_of}
use Rattle.calls.specs.Steps.{is_open}
use Rattle.table.specs.Changes.{opens_at}
use Rattle.calls.specs.Modify.{mismatch}
use Rattle.calls.specs.Others.{available}
use Rattle.calls.specs.Changes.{IsDedicated}
use Rattle.calls.specs.Checks.{Open, Matched, Identity, Active, Available, Linkable, Headed, Permitted}

pub open_says : (t : Table) (x : ℕ) → Says (is_open t x) (Open t x)
unfolding is_open opens_at
open_says t x =
    says_so (says_and (says_and (says_not (says_eq x 0)) (says_le x last_transaction)) (says_any bearer_count (λ i l. says_eq (transaction_at t i) x)))
    (λ h. let n = h.0.0 in (omega arith, h.0.1, h.1)) (λ h. ((λ z. omega (arith, h.0), h.1), h.2))

neither_not : (a b : Bool) → a || b ≡ not (not a && not b)
neither_not true b = refl
neither_not false true = refl
neither_not false false = refl

pub matched_says : (t : Table) (x : ℕ) → Says (not (mismatch t x)) (Matched t x)
matched_says t x = subst (λ (b : Bool). Says b (Matched t x)) (neither_not (eqb x 0) (is_open t x)) (says_or (says_eq x 0) (open_says t x))

pub head_says : (value : List ℕ) → Says (head_fine value) (Headed value)
unfolding head_fine
head_says value =
    let n = length value in
    let o = operation_of value in
    says_so (says_and (says_and (says_and (says_le 1 n) (says_le n longest)) (says_le create o)) (says_le o no_operation))
    (λ h. (h.0.0, (h.0.1, h.1))) (λ h. ((h.0, h.1.0), h.1.1))

-- a bearer that an identity names: of an identity out of range, an idle one
module _ (t : Table) (bearer : ℕ) where
  by_role : (test : Role → Bool) {P : Type 0} → test Idle ≡ false → Says (test (role_at t (index_of bearer))) P
      → Says (test (role_of t bearer)) (Identity bearer × P)
  by_role test {P} z s = subst (λ (b : Bool). Says b (Identity bearer × P)) (go (is_identity bearer)) (says_and (range_says bearer) s)
    where
      go : (b : Bool) → b && test (role_at t (index_of bearer)) ≡ test (pick b (role_at t (index_of bearer)) Idle)
      go true = refl
      go false = sym z

  pub available_says : Says (available t bearer) (Available t bearer)
  available_says =
      subst (λ (b : Bool). Says b (Available t bearer)) (go (is_identity bearer))
      (says_and (range_says bearer) (idle_says (role_at t (index_of bearer))))
    where
      go : (b : Bool) → b && is_idle (role_at t (index_of bearer)) ≡ b && is_idle (pick b (role_at t (index_of bearer)) Idle)
      go true = refl
      go false = refl

  pub active_says : Says (not (is_idle (role_of t bearer))) (Active t bearer)
  active_says = by_role (λ r. not (is_idle r)) refl (says_not (idle_says (role_at t (index_of bearer))))

  pub active_at : is_idle (role_of t bearer) ≡ false → Active t bearer
  active_at e = active_says.to (ap not e)

  pub dedicated_of : Identity bearer → Says (is_dedicated (role_of t bearer)) (IsDedicated t (index_of bearer))
  dedicated_of h = says_so (by_role is_dedicated refl (dedicated_says (role_at t (index_of bearer)))) (λ q. q.1) (λ q. (h, q))

  pub permitted_says : (value : List ℕ) → Identity bearer
      → Says (not (is_dedicated (role_of t bearer) && eqb (operation_of value) delete_tft)) (Permitted t bearer value)
  permitted_says value h = says_not (says_and (dedicated_of h) (says_eq (operation_of value) delete_tft))

pub linkable_says : (t : Table) (bearer link : ℕ) → Says (available t bearer && is_default (role_of t link)) (Linkable t bearer link)
linkable_says t bearer link = says_and (available_says t bearer) (default_of t link)
