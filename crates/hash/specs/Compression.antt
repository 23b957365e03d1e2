use Rattle.std.specs.Prelude.{ℕ, zero, suc, ◌+◌, ◌-◌, ◌*◌, List, [], ◌∷◌, ◌++◌, slice_index}
use Rattle.hash.specs.declared.block.Words.{Words}
use Rattle.hash.specs.Bytes.{number_at}
use Rattle.hash.specs.Constants.{constants}
use Rattle.hash.specs.Words.{plus, ch, maj, big_sigma0, big_sigma1, small_sigma0, small_sigma1}

-- The first n words of a block of 64 bytes.
unfoldable pub words : List ℕ → ℕ → List ℕ
words block zero = []
words block (suc n) = words block n ++ number_at 4 block (4 * n) ∷ []

-- A word from those that stand 2, 7, 15 and 16 places before it.
abbrev pub word_from : ℕ → ℕ → ℕ → ℕ → ℕ
word_from w2 w7 w15 w16 = plus (plus (plus (small_sigma1 w2) w7) (small_sigma0 w15)) w16

-- The word that follows i words of a schedule.
unfoldable pub next_word : List ℕ → ℕ → ℕ
next_word ws i = word_from (slice_index ws (i - 2)) (slice_index ws (i - 7)) (slice_index ws (i - 15)) (slice_index ws (i - 16))

-- The schedule: sixteen words, and n more.
unfoldable pub schedule : List ℕ → ℕ → List ℕ
schedule ws zero = ws
schedule ws (suc n) = schedule ws n ++ next_word (schedule ws n) (16 + n) ∷ []

abbrev pub temporary1 : Words → ℕ → ℕ → ℕ
temporary1 s k w = plus (plus (plus (plus s.h (big_sigma1 s.e)) (ch s.e s.f s.g)) k) w

abbrev pub temporary2 : Words → ℕ
temporary2 s = plus (big_sigma0 s.a) (maj s.a s.b s.c)

-- One round, with its constant and its word of the schedule.
unfoldable pub round : Words → ℕ → ℕ → Words
round s k w =
    record {
      a = plus (temporary1 s k w) (temporary2 s);
      b = s.a;
      c = s.b;
      d = s.c;
      e = plus s.d (temporary1 s k w);
      f = s.e;
      g = s.f;
      h = s.g;
    }

-- The working variables after the first n rounds.
unfoldable pub rounds : List ℕ → Words → ℕ → Words
rounds ws s zero = s
rounds ws s (suc n) = round (rounds ws s n) (slice_index constants n) (slice_index ws n)

-- Word by word addition.
abbrev pub added : Words → Words → Words
added s t =
    record {
      a = plus s.a t.a;
      b = plus s.b t.b;
      c = plus s.c t.c;
      d = plus s.d t.d;
      e = plus s.e t.e;
      f = plus s.f t.f;
      g = plus s.g t.g;
      h = plus s.h t.h;
    }

-- The hash value after one more block: 64 rounds over its schedule, added to the value before.
unfoldable pub compressed : Words → List ℕ → Words
compressed s block = added s (rounds (schedule (words block 16) 48) s 64)
