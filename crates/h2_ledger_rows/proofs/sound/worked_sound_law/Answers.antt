use Rattle.std.proofs.Common.{◌≡◌, ◌⊎◌, ◌≤◌, ℕ, true, false, [], ap, sym, arith, inl, inr, refl}
use Rattle.h2_codes.specs.declared.code.Code.TheVariants.{Staged, Used}
use Rattle.h2_codes.specs.Free.{free_below}
use Rattle.h2_ledger.specs.declared.pass.Pass.TheVariants.{Begun}
use Rattle.h2_ledger.specs.declared.shared_size.SharedSize.{SharedSize}
use Rattle.h2_ledger.specs.declared.shared_size.SharedSize.TheVariants.{Small, Middle}
use Rattle.h2_ledger.specs.Ledger.{HasBlockIn, by_live, since_live}
use Rattle.h2_ledger.specs.Moves.{freeze_of_pass, begin_pass}
use Rattle.h2_ledger.specs.Sound.{IsSound}
use Rattle.h2_ledger.specs.RunLaws.{opens_sound, runs_sound}
use Rattle.h2_ledger.specs.SoundLaws.{keeps_sound}
use Rattle.h2_ledger_rows.specs.Ledgers.{IsIn, block_of, chunk_block, old_tree, used_codes, resting, opened}
use Rattle.h2_ledger_rows.specs.Passes.{half_pass, pass_moves, half_applied, after_one, after_two, marked_only}
use Rattle.h2_ledger_rows.proofs.Blocks.{old_sees, used_not_staged, free_not_taken, free_count}
use Rattle.h2_ledger_rows.proofs.Steps.{begins, freezes, half_run, whole_run}
use Rattle.h2_ledger_rows.proofs.Joining.{opens_old}
use Rattle.h2_ledger_rows.proofs.sound.worked_sound_law.Goals as goal

sound : IsSound IsIn opened
sound = opens_sound IsIn opened opens_old

begun : IsSound IsIn (resting used_codes 1 old_tree old_tree Begun [])
begun = keeps_sound IsIn begin_pass opened (resting used_codes 1 old_tree old_tree Begun []) (begins used_codes 1 old_tree old_tree []) sound

after_first : IsSound IsIn after_one
after_first = runs_sound IsIn (pass_moves 2) opened after_one (whole_run Used Used Used true false false 1 old_tree old_tree [] old_sees) sound

none_marked : HasBlockIn IsIn [] 256 ⊎ (Staged ≡ Used) → ⊥
none_marked (inl h) = h.1
none_marked (inr e) = used_not_staged (sym e)

-- the number of a size
number : SharedSize → ℕ
number Small = 0
number Middle = 1

unlike_sizes : (j k : SharedSize) → j ≡ k → number j ≡ number k
unlike_sizes j k e = ap number e

sizes_differ : Small ≡ Middle → ⊥
unfolding number
sizes_differ e = absurd (let f : ◌≡◌ {A = ℕ} 0 1 = unlike_sizes Small Middle e in omega arith)

too_many : 254 ≤ free_below used_codes 512 → ⊥
too_many le = absurd (let e : free_below used_codes 512 ≡ 253 = free_count in omega arith)

pub returns : goal.returns
returns c = record {
  opened = sound;
  marked = keeps_sound IsIn freeze_of_pass (resting used_codes 1 old_tree old_tree Begun []) marked_only (freezes used_codes 1 old_tree old_tree []) begun;
  half = runs_sound IsIn (half_pass 2) opened (half_applied used_codes 2 old_tree) (half_run Used Used Used true false false 1 old_tree old_tree [] old_sees) sound;
  twice = runs_sound IsIn (pass_moves 3) after_one after_two (whole_run Used Staged Staged true false false 2 old_tree old_tree old_tree old_sees) after_first;
  not_covered = λ s. free_not_taken (s.covered (chunk_block 256) (by_live (inl refl)));
  not_in_one_chunk = λ s. absurd (let le : 24576 ≤ 16384 = s.in_one_chunk (block_of 256 8192 14) (inl (by_live (inl refl))) in omega arith);
  not_marked = λ s. none_marked (s.marked_or_used 2 0 (inr refl) (chunk_block 256) (since_live (inl refl)) (omega arith));
  not_marked_free = λ s. free_not_taken (s.marked_covered 2 0 (inr refl) (chunk_block 259) (inr (inl refl)));
  not_before_header = λ s. absurd (let le : 2 ≤ 1 = s.scans_after_header 2 0 refl in omega arith);
  not_next = λ s. absurd (let e : ◌≡◌ {A = ℕ} 3 2 = s.frozen_is_next 3 refl in omega arith);
  not_below_cursor = λ s. absurd (let le : 4210688 ≤ 4202496 = s.below_cursor Small (record { chunk = 256; used = 8192 }) refl (chunk_block 256) (inl (by_live (inl refl))) refl in omega arith);
  not_cursor_taken = λ s. free_not_taken (s.cursor_taken Small (record { chunk = 259; used = 0 }) refl);
  not_cursors_apart = λ s. sizes_differ (s.cursors_apart Small Middle (record { chunk = 257; used = 0 }) (record { chunk = 257; used = 4096 }) refl refl refl);
  not_reserved = λ s. too_many s.reserved_is_free;
}
