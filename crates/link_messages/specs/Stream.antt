-- A stream of frames: the answer of its next read, and the frames that it spells.
use Rattle.std.specs.Prelude.{◌≡◌, ◌⊎◌, ℕ, ◌+◌, ◌<◌, ◌≤◌, List, [], ◌∷◌, ◌++◌, length, take, All}
use Rattle.std.specs.Prelude.{Option, Some, None, Result, Ok, Err}
use Rattle.std.specs.List.{flat_map}
use Rattle.std.specs.Int.{w32, from_be_bytes}
use Rattle.link_messages.specs.declared.error.FrameError.{FrameError}
use Rattle.link_messages.specs.declared.error.FrameError.TheVariants as fault
use Rattle.link_messages.specs.declared.frame.Frame.{Frame}
use Rattle.link_messages.specs.declared.frame.TheConstants.{MAX_FRAME}
use Rattle.link_messages.specs.Spelling.{u32, body, frame_bytes, IsFrame}

-- the length in the first four bytes
abbrev pub length_field : List ℕ → ℕ
length_field bytes = from_be_bytes w32 (take 4 bytes)

-- a length from 1 to 131,072 with fewer bytes behind it
pub record LacksBytes (bytes : List ℕ) : Type 0 where
  pub told : 4 ≤ length bytes
  pub some : 1 ≤ length_field bytes
  pub few : length_field bytes ≤ MAX_FRAME
  pub lacking : length bytes < 4 + length_field bytes

-- an incomplete frame: an incomplete length, or fewer bytes than the length says
abbrev pub IsPartial : List ℕ → Type 0
IsPartial bytes = (length bytes < 4) ⊎ LacksBytes bytes

-- a length from 1 to 131,072 and that many bytes, the content; more bytes may follow
pub record IsComplete (bytes content : List ℕ) : Type 0 where
  pub some : 1 ≤ length content
  pub few : length content ≤ MAX_FRAME
  pub rest : List ℕ
  pub parts : bytes ≡ u32 (length content) ++ (content ++ rest)

-- the first byte is a kind of frames
abbrev pub HasKind : List ℕ → Type 0
HasKind [] = ⊥
HasKind (k ∷ rest) = (1 ≤ k) × (k ≤ 14)

-- a frame in range, and the bytes behind it
pub record BeginsWithFrame (content : List ℕ) (f : Frame) (behind : List ℕ) : Type 0 where
  pub frame : IsFrame f
  pub parts : content ≡ body f ++ behind

-- content of a known kind that begins with no frame in range
pub record IsMalformed (content : List ℕ) : Type 0 where
  pub known : HasKind content
  pub none : (f : Frame) (behind : List ℕ) → BeginsWithFrame content f behind → ⊥

-- content with one or more bytes behind a frame in range
pub record IsTooMuch (content : List ℕ) : Type 0 where
  pub frame : Frame
  pub byte : ℕ
  pub more : List ℕ
  pub begins : BeginsWithFrame content frame (byte ∷ more)

-- the error at the front of the bytes
abbrev pub HasFault : FrameError → List ℕ → Type 0
HasFault fault.TooLong bytes = (4 ≤ length bytes) × (MAX_FRAME < length_field bytes)
HasFault fault.BadKind bytes = (content : List ℕ) × IsComplete bytes content × (HasKind content → ⊥)
HasFault fault.BadField bytes =
    ((4 ≤ length bytes) × (length_field bytes ≡ 0))
    ⊎ ((content : List ℕ) × IsComplete bytes content × IsMalformed content)
HasFault fault.Trailing bytes = (content : List ℕ) × IsComplete bytes content × IsTooMuch content
HasFault fault.Memory bytes = ⊥

-- The answers of a read. There is a frame at the front, and the bytes behind it remain. Or the
-- frame is incomplete, or it is complete and of a known kind and memory ran out, or there is an
-- error. Without a frame all bytes remain.
abbrev pub NextOutcome : Result (Option Frame) FrameError → List ℕ → List ℕ → Type 0
NextOutcome (Ok (Some f)) old new = IsFrame f × (old ≡ frame_bytes f ++ new)
NextOutcome (Ok None) old new = IsPartial old × (new ≡ old)
NextOutcome (Err fault.Memory) old new =
    ((content : List ℕ) × IsComplete old content × HasKind content) × (new ≡ old)
NextOutcome (Err e) old new = HasFault e old × (new ≡ old)

-- the stream is these frames, and then an incomplete one
pub record Splits (stream : List ℕ) (frames : List Frame) (rest : List ℕ) : Type 0 where
  pub whole : stream ≡ flat_map frame_bytes frames ++ rest
  pub each : All IsFrame frames
  pub partial : IsPartial rest

-- ---- laws

-- no spelling is a prefix of another, and no two frames have the same spelling
abbrev pub OneSpelling : Type 0
OneSpelling = (f g : Frame) (x y : List ℕ) → IsFrame f → IsFrame g
    → frame_bytes f ++ x ≡ frame_bytes g ++ y → (f ≡ g) × (x ≡ y)

-- the answer is about the bytes, and memory did not run out
abbrev pub IsByteOutcome : Result (Option Frame) FrameError → List ℕ → List ℕ → Type 0
IsByteOutcome (Err fault.Memory) old new = ⊥
IsByteOutcome answer old new = NextOutcome answer old new

-- the same bytes have one answer, and leave one rest
abbrev pub OneAnswer : Type 0
OneAnswer = (a b : Result (Option Frame) FrameError) (old new other : List ℕ)
    → IsByteOutcome a old new → IsByteOutcome b old other → (a ≡ b) × (new ≡ other)

-- an error stays, whatever bytes follow
abbrev pub FaultsStay : Type 0
FaultsStay = (e : FrameError) (bytes more : List ℕ) → HasFault e bytes → HasFault e (bytes ++ more)

-- a stream has one list of frames, and one rest
abbrev pub OneSplit : Type 0
OneSplit = (stream rest other : List ℕ) (frames others : List Frame)
    → Splits stream frames rest → Splits stream others other → (frames ≡ others) × (rest ≡ other)

-- each frame keeps the limit
abbrev pub FramesFit : Type 0
FramesFit = (f : Frame) → IsFrame f → length (body f) ≤ MAX_FRAME

-- the limit as a number
abbrev pub FrameBoundIs : Type 0
FrameBoundIs = MAX_FRAME ≡ 131072
