-- The tables of octets.
use Rattle.std.proofs.Common.{◌≡◌, ℕ, zero, suc, ◌+◌, ◌*◌, ◌<◌, ◌≤◌, List, map, get_or, take, drop, refl, sym, ap, ◌∙◌}
use Rattle.std.proofs.Common.{arith}
use Rattle.std.specs.List.{range_with_len}
use Rattle.std.proofs.lemmas.List.{get_or-take, get_or-drop}
use Rattle.std.proofs.lemmas.List.FromFn.{get_or-map-range_with_len}
use Rattle.bus_fcs.specs.Internal.Register.{crc_step_of, crc_steps}
use Rattle.bus_fcs.specs.declared.table.TheConstants.{TABLES}

-- each table has what the steps make of every octet
table_is : (k : ℕ) → k ≤ 7 → take 256 (drop (256 * k) TABLES) ≡ map (crc_steps (8 * k + 8)) (range_with_len 0 256)
unfolding crc_steps crc_step_of
table_is zero small = refl
table_is (suc zero) small = refl
table_is (suc (suc zero)) small = refl
table_is (suc (suc (suc zero))) small = refl
table_is (suc (suc (suc (suc zero)))) small = refl
table_is (suc (suc (suc (suc (suc zero))))) small = refl
table_is (suc (suc (suc (suc (suc (suc zero)))))) small = refl
table_is (suc (suc (suc (suc (suc (suc (suc zero))))))) small = refl
table_is (suc (suc (suc (suc (suc (suc (suc (suc k)))))))) small = absurd (omega arith)

pub table_at : (k i : ℕ) → k ≤ 7 → i < 256 → get_or TABLES (256 * k + i) 0 ≡ crc_steps (8 * k + 8) i
table_at k i small octet =
    sym (get_or-take 256 (drop (256 * k) TABLES) i 0 octet ∙ get_or-drop (256 * k) TABLES i 0)
    ∙ ap (λ (t : List ℕ). get_or t i 0) (table_is k small)
    ∙ get_or-map-range_with_len (crc_steps (8 * k + 8)) 0 256 i i 0 octet (omega arith)
