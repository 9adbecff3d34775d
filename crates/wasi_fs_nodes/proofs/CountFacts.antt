-- What is kept is right after each change.
use Rattle.std.proofs.Common.{◌≡◌, ℕ, zero, suc, ◌+◌, ◌-◌, ◌<◌, ◌≤◌, List, [], ◌∷◌, ◌++◌, length, set, get_or, Option, Some, None, false, cond, eqb, refl, ap, sym, subst, ◌∙◌, arith}
use Rattle.std.proofs.lemmas.List.{map-append, length-map, length-append}
use Rattle.std.proofs.lemmas.Bool.Decides.{nat_tests}
use Rattle.std.specs.Map.{keys_of}
use Rattle.wasi_clocks.specs.declared.datetimes.Datetime.{Datetime}
use Rattle.wasi_fs_nodes.specs.Names.{IsAscending, entry_of}
use Rattle.wasi_fs_nodes.specs.Nodes.{bytes_at, kind_at, is_directory, parent_at, entry_at, names_in, names_at, bytes_in, links_of, total_bytes}
use Rattle.wasi_fs_nodes.specs.Content.{written}
use Rattle.wasi_fs_nodes.specs.Bodies.{body_with_bytes, body_resized, with_written, with_size, with_body, body_with_name, body_with_other, body_with_parent, body_without_name, with_name, without_name, with_times}
use Rattle.wasi_fs_nodes.specs.Shape.{IsSound, IsFresh}
use Rattle.wasi_fs_nodes.specs.Changes.{root_alone, put_at, moved}
use Rattle.wasi_fs_nodes.specs.Counts.{nodes_in, links_list, IsCounted}
use Rattle.wasi_fs_nodes.specs.declared.node.Node.{Node}
use Rattle.wasi_fs_nodes.specs.declared.node.Body.{Body}
use Rattle.wasi_fs_nodes.specs.declared.node.Body.TheVariants.{File, Directory, Link}
use Rattle.wasi_fs_nodes.specs.declared.node.Kind.TheVariants as kinds
use Rattle.wasi_fs_nodes.specs.declared.rows.Row.{Row}
use Rattle.wasi_fs_nodes.proofs.EntryFacts.{no_names_ascend}
use Rattle.wasi_fs_nodes.proofs.NodeFacts.{some_links}
use Rattle.wasi_fs_nodes.proofs.RowFacts.{read_more, read_less}
use Rattle.wasi_fs_nodes.proofs.ShapeFacts.{Keeps, keeps_bytes, keeps_resized}
use Rattle.wasi_fs_nodes.proofs.MoveFacts.{kept_put_at}
use Rattle.wasi_fs_nodes.proofs.SoundChanges.{sound_kept, sound_new, sound_link, sound_taken, sound_moved, sound-with_times}
use Rattle.wasi_fs_nodes.proofs.SumFacts.{bytes_part, written_sum, sized_sum, total_bytes-push, total_bytes-kept, links_of-push, links_of-kept, links_of-with_name, links_of-without_name, links_of-with_target, total_bytes-with_times, links_of-with_times}

-- the root alone
no_bytes : (now : Option Datetime) → 0 ≡ total_bytes (root_alone now)
unfolding total_bytes
no_bytes now = refl

no_links : (n : ℕ) (now : Option Datetime) → get_or (0 ∷ []) n 0 ≡ links_of (root_alone now) n
unfolding links_of
no_links zero now = refl
no_links (suc n) now = refl

root_stands : (now : Option Datetime) (n : ℕ) → kind_at (root_alone now) n ≡ Some kinds.Directory → kind_at (root_alone now) (parent_at (root_alone now) n) ≡ Some kinds.Directory
root_stands now zero h = refl
root_stands now (suc n) h = refl

no_entry : (now : Option Datetime) (d : ℕ) → names_at (root_alone now) d ≡ []
no_entry now zero = refl
no_entry now (suc d) = refl

no_entry_there : (now : Option Datetime) (d : ℕ) (q : List ℕ) (n : ℕ) → entry_at (root_alone now) d q ≡ Some n → ⊥
no_entry_there now d q n e = let h : entry_of [] q ≡ Some n = sym (ap (λ names. entry_of names q) (no_entry now d)) ∙ e in cc

no_link : (n : ℕ) (now : Option Datetime) → links_of (root_alone now) n ≡ 0
unfolding links_of
no_link zero now = refl
no_link (suc n) now = refl

root_sound : (now : Option Datetime) → IsSound (root_alone now)
root_sound now = record {
  rooted = record { root = refl; parents = root_stands now };
  top = no_link 0 now;
  named = λ d q n e. absurd (no_entry_there now d q n e);
  ordered = λ d. let P : List (List ℕ × ℕ) → Type 0 = λ names. IsAscending (keys_of names) in subst P (sym (no_entry now d)) no_names_ascend;
  stands = λ d q n e k. absurd (no_entry_there now d q n e);
  once = λ n k. rw (no_link n now) (omega arith);
}

pub counted_root : (now : Option Datetime) (rows : List Row) → nodes_in rows ≡ root_alone now → links_list rows ≡ 0 ∷ [] → length rows ≡ 1 → IsCounted rows 0
counted_root now rows m s l = record {
  sum = no_bytes now ∙ ap total_bytes (sym m);
  links = λ n. ap (λ ls. get_or ls n 0) s ∙ no_links n now ∙ ap (λ ns. links_of ns n) (sym m);
  shape = rw m (root_sound now);
  room = omega arith;
  few = omega (arith, l);
}

-- a one more at the end
read_one : (xs : List ℕ) (n : ℕ) → get_or (xs ++ 1 ∷ []) n 0 ≡ get_or xs n 0 + cond (eqb (length xs) n) 1 0
read_one [] zero = refl
read_one [] (suc n) = grind (arith, nat_tests)
read_one (x ∷ xs) zero = grind (arith, nat_tests)
read_one (x ∷ xs) (suc n) = rw (read_one xs n) (grind (arith, nat_tests))

name_bytes : (name : List ℕ) (node : ℕ) (b : Body) → bytes_in (body_with_name name node b) ≡ bytes_in b
name_bytes name node b = elim b as (λ b. bytes_in (body_with_name name node b) ≡ bytes_in b) [ File x ↦ refl | Directory p x ↦ refl | Link x ↦ refl ]

other_bytes : (name : List ℕ) (node : ℕ) (b : Body) → bytes_in (body_with_other name node b) ≡ bytes_in b
other_bytes name node b = elim b as (λ b. bytes_in (body_with_other name node b) ≡ bytes_in b) [ File x ↦ refl | Directory p x ↦ refl | Link x ↦ refl ]

taken_bytes : (name : List ℕ) (b : Body) → bytes_in (body_without_name name b) ≡ bytes_in b
taken_bytes name b = elim b as (λ b. bytes_in (body_without_name name b) ≡ bytes_in b) [ File x ↦ refl | Directory p x ↦ refl | Link x ↦ refl ]

parent_bytes : (dir : ℕ) (b : Body) → bytes_in (body_with_parent dir b) ≡ bytes_in b
parent_bytes dir b = elim b as (λ b. bytes_in (body_with_parent dir b) ≡ bytes_in b) [ File x ↦ refl | Directory p x ↦ refl | Link x ↦ refl ]

parent_names : (dir : ℕ) (b : Body) → names_in (body_with_parent dir b) ≡ names_in b
parent_names dir b = elim b as (λ b. names_in (body_with_parent dir b) ≡ names_in b) [ File x ↦ refl | Directory p x ↦ refl | Link x ↦ refl ]

pub counted_new : (rows more : List Row) (bytes dir : ℕ) (name : List ℕ) (node : Node) (size : ℕ) → IsCounted rows bytes
    → kind_at (nodes_in rows) dir ≡ Some kinds.Directory → entry_at (nodes_in rows) dir name ≡ None → IsFresh (nodes_in rows) dir node → size ≡ length (bytes_in node.body)
    → nodes_in more ≡ with_name (nodes_in rows) dir name (length rows) → links_list more ≡ links_list rows → length more ≡ length rows
    → length rows < 65536 → bytes + size ≤ 67108864
    → IsCounted (more ++ (record { node = node; links = 1 }) ∷ []) (bytes + size)
counted_new rows more bytes dir name node size i k e f h m s l few r =
    let ns = with_name (nodes_in rows) dir name (length rows) in
    let b = body_with_name name (length rows) in
    let last : Row = record { node = node; links = 1 } in
    record {
      sum = rw (map-append (λ (r : Row). r.node), m) (omega (arith, i.sum, h, total_bytes-push ns node, total_bytes-kept b (name_bytes name (length rows)) (nodes_in rows) dir));
      links = λ n. rw (map-append (λ (r : Row). r.node), map-append (λ (r : Row). r.links), m, s)
          (read_one (links_list rows) n ∙ ap (λ a. a + cond (eqb (length (links_list rows)) n) 1 0) (i.links n)
          ∙ ap (λ l. links_of (nodes_in rows) n + cond (eqb l n) 1 0) (length-map rows (λ (r : Row). r.links))
          ∙ sym (links_of-push n ns node ∙ rw f.empty (omega (arith, links_of-with_name n (nodes_in rows) dir name (length rows) k e))));
      shape = rw (map-append (λ (r : Row). r.node), m)
          (subst (λ l. IsSound (with_name (nodes_in rows) dir name l ++ node ∷ [])) (length-map rows (λ (r : Row). r.node)) (sound_new (nodes_in rows) dir name node i.shape k e f));
      room = r;
      few = omega (arith, length-append more (last ∷ []), l, few);
    }

pub counted_link : (rows more : List Row) (bytes dir node : ℕ) (name : List ℕ) → IsCounted rows bytes
    → kind_at (nodes_in rows) dir ≡ Some kinds.Directory → entry_at (nodes_in rows) dir name ≡ None → node < length (nodes_in rows) → is_directory (nodes_in rows) node ≡ false
    → nodes_in more ≡ with_name (nodes_in rows) dir name node
    → links_list more ≡ set (links_list rows) node (get_or (links_list rows) node 0 + 1) → length more ≡ length rows
    → IsCounted more bytes
counted_link rows more bytes dir node name i k e l no_dir m s c = record {
  sum = i.sum ∙ sym (total_bytes-kept (body_with_name name node) (name_bytes name node) (nodes_in rows) dir) ∙ ap total_bytes (sym m);
  links = λ n. ap (λ ls. get_or ls n 0) s ∙ read_more (links_list rows) node n (omega (arith, l, length-map rows (λ (r : Row). r.links), length-map rows (λ (r : Row). r.node))) ∙ ap (λ a. a + cond (eqb node n) 1 0) (i.links n)
      ∙ sym (links_of-with_name n (nodes_in rows) dir name node k e) ∙ ap (λ xs. links_of xs n) (sym m);
  shape = rw m (sound_link (nodes_in rows) dir name node i.shape k e l no_dir);
  room = i.room;
  few = omega (arith, c, i.few);
}

pub some_before : (rows : List Row) (bytes dir node : ℕ) (name : List ℕ) → IsCounted rows bytes → entry_at (nodes_in rows) dir name ≡ Some node → 0 < get_or (links_list rows) node 0
some_before rows bytes dir node name i e = rw (i.links node) (some_links (nodes_in rows) dir name node e)

pub counted_taken : (rows more : List Row) (bytes dir node : ℕ) (name : List ℕ) → IsCounted rows bytes
    → entry_at (nodes_in rows) dir name ≡ Some node
    → nodes_in more ≡ without_name (nodes_in rows) dir name
    → links_list more ≡ set (links_list rows) node (get_or (links_list rows) node 0 - 1) → length more ≡ length rows
    → IsCounted more bytes
counted_taken rows more bytes dir node name i e m s c = record {
  sum = i.sum ∙ sym (total_bytes-kept (body_without_name name) (taken_bytes name) (nodes_in rows) dir) ∙ ap total_bytes (sym m);
  links = λ n. rw (s, m) (omega (arith, read_less (links_list rows) node n (some_before rows bytes dir node name i e), i.links n, links_of-without_name n (nodes_in rows) dir name node e));
  shape = rw m (sound_taken (nodes_in rows) dir name node i.shape e);
  room = i.room;
  few = omega (arith, c, i.few);
}

-- a node takes another place
moved_bytes : (nodes : List Node) (from : ℕ) (name : List ℕ) (node to : ℕ) (q : List ℕ) (target : Option ℕ) → total_bytes (moved nodes from name node to q target) ≡ total_bytes nodes
moved_bytes nodes from name node to q target =
    let put : List Node = put_at nodes to q node target in
    total_bytes-kept (body_with_parent to) (parent_bytes to) (without_name put from name) node ∙ total_bytes-kept (body_without_name name) (taken_bytes name) put from ∙ put_bytes target
  where
    put_bytes : (target : Option ℕ) → total_bytes (put_at nodes to q node target) ≡ total_bytes nodes
    put_bytes None = total_bytes-kept (body_with_name q node) (name_bytes q node) nodes to
    put_bytes (Some before) = total_bytes-kept (body_with_other q node) (other_bytes q node) nodes to

-- .. and keeps as many entries; what it replaces has one less
moved_links : (nodes : List Node) (from : ℕ) (name : List ℕ) (node to : ℕ) (q : List ℕ) (n : ℕ) → entry_at nodes from name ≡ Some node → kind_at nodes to ≡ Some kinds.Directory → entry_at nodes to q ≡ None
    → links_of (moved nodes from name node to q None) n ≡ links_of nodes n
moved_links nodes from name node to q n there k absent =
    let put : List Node = put_at nodes to q node None in
    omega (
      arith,
      links_of-kept (body_with_parent to) (parent_names to) n (without_name put from name) node,
      links_of-without_name n put from name node (kept_put_at nodes to q node None from name there),
      links_of-with_name n nodes to q node k absent,
    )

replaced_links : (nodes : List Node) (from : ℕ) (name : List ℕ) (node to : ℕ) (q : List ℕ) (before n : ℕ) → entry_at nodes from name ≡ Some node → entry_at nodes to q ≡ Some before
    → links_of (moved nodes from name node to q (Some before)) n + cond (eqb before n) 1 0 ≡ links_of nodes n
replaced_links nodes from name node to q before n there other =
    let put : List Node = put_at nodes to q node (Some before) in
    omega (
      arith,
      links_of-kept (body_with_parent to) (parent_names to) n (without_name put from name) node,
      links_of-without_name n put from name node (kept_put_at nodes to q node (Some before) from name there),
      links_of-with_target n nodes to q node before other,
    )

pub counted_moved : (rows more : List Row) (bytes from node to : ℕ) (name q : List ℕ) → IsCounted rows bytes
    → entry_at (nodes_in rows) from name ≡ Some node → kind_at (nodes_in rows) to ≡ Some kinds.Directory → entry_at (nodes_in rows) to q ≡ None
    → nodes_in more ≡ moved (nodes_in rows) from name node to q None → links_list more ≡ links_list rows → length more ≡ length rows → IsCounted more bytes
counted_moved rows more bytes from node to name q i there k absent m s c = record {
  sum = i.sum ∙ sym (moved_bytes (nodes_in rows) from name node to q None) ∙ ap total_bytes (sym m);
  links = λ n. ap (λ ls. get_or ls n 0) s ∙ i.links n ∙ sym (moved_links (nodes_in rows) from name node to q n there k absent) ∙ ap (λ ns. links_of ns n) (sym m);
  shape = rw m (sound_moved (nodes_in rows) from name node to q None i.shape there k (sym absent));
  room = i.room;
  few = omega (arith, c, i.few);
}

pub counted_replaced : (rows more : List Row) (bytes from node to before : ℕ) (name q : List ℕ) → IsCounted rows bytes
    → entry_at (nodes_in rows) from name ≡ Some node → kind_at (nodes_in rows) to ≡ Some kinds.Directory → entry_at (nodes_in rows) to q ≡ Some before
    → nodes_in more ≡ moved (nodes_in rows) from name node to q (Some before)
    → links_list more ≡ set (links_list rows) before (get_or (links_list rows) before 0 - 1) → length more ≡ length rows → IsCounted more bytes
counted_replaced rows more bytes from node to before name q i there k other m s c = record {
  sum = i.sum ∙ sym (moved_bytes (nodes_in rows) from name node to q (Some before)) ∙ ap total_bytes (sym m);
  links = λ n. rw (s, m) (omega (arith, read_less (links_list rows) before n (some_before rows bytes to before q i other), i.links n, replaced_links (nodes_in rows) from name node to q before n there other));
  shape = rw m (sound_moved (nodes_in rows) from name node to q (Some before) i.shape there k (sym other));
  room = i.room;
  few = omega (arith, c, i.few);
}

-- the bytes of one file changed
pub counted_file : (f : Body → Body) → Keeps f → ((b : Body) → names_in (f b) ≡ names_in b) → (rows more : List Row) (bytes now file : ℕ) → IsCounted rows bytes
    → nodes_in more ≡ with_body f (nodes_in rows) file → links_list more ≡ links_list rows → length more ≡ length rows
    → now ≡ total_bytes (with_body f (nodes_in rows) file) → now ≤ 67108864 → IsCounted more now
counted_file f k same rows more bytes now file i m s c t r = record {
  sum = t ∙ ap total_bytes (sym m);
  links = λ n. ap (λ ls. get_or ls n 0) s ∙ i.links n ∙ sym (links_of-kept f same n (nodes_in rows) file) ∙ ap (λ ns. links_of ns n) (sym m);
  shape = rw m (sound_kept f k same (nodes_in rows) file i.shape);
  room = r;
  few = omega (arith, c, i.few);
}

bytes_names : (now : List ℕ) (b : Body) → names_in (body_with_bytes now b) ≡ names_in b
bytes_names now b = elim b as (λ b. names_in (body_with_bytes now b) ≡ names_in b) [ File x ↦ refl | Directory p x ↦ refl | Link x ↦ refl ]

resized_names : (size : ℕ) (b : Body) → names_in (body_resized size b) ≡ names_in b
resized_names size b = elim b as (λ b. names_in (body_resized size b) ≡ names_in b) [ File x ↦ refl | Directory p x ↦ refl | Link x ↦ refl ]

pub counted_written : (rows more : List Row) (bytes grown file place : ℕ) (bs : List ℕ) → IsCounted rows bytes → kind_at (nodes_in rows) file ≡ Some kinds.File
    → nodes_in more ≡ with_written (nodes_in rows) file place bs → links_list more ≡ links_list rows → length more ≡ length rows
    → grown ≡ place + length bs - length (bytes_at (nodes_in rows) file) → total_bytes (nodes_in rows) + grown ≤ 67108864 → IsCounted more (bytes + grown)
counted_written rows more bytes grown file place bs i k m s c g r =
    let after : List ℕ = written (bytes_at (nodes_in rows) file) place bs in
    counted_file (body_with_bytes after) (keeps_bytes after) (bytes_names after) rows more bytes (bytes + grown) file i m s c
    (omega (arith, i.sum, g, written_sum (nodes_in rows) file place bs k)) (omega (arith, i.sum, r))

pub counted_sized : (rows more : List Row) (bytes now before file size : ℕ) → IsCounted rows bytes → kind_at (nodes_in rows) file ≡ Some kinds.File
    → nodes_in more ≡ with_size (nodes_in rows) file size → links_list more ≡ links_list rows → length more ≡ length rows
    → before ≡ length (bytes_at (nodes_in rows) file) → total_bytes (nodes_in rows) + (size - before) ≤ 67108864 → now ≡ bytes + size - before → IsCounted more now
counted_sized rows more bytes now before file size i k m s c g r n =
    counted_file (body_resized size) (keeps_resized size) (resized_names size) rows more bytes now file i m s c
    (omega (arith, i.sum, g, sized_sum (nodes_in rows) file size k, n)) (omega (arith, i.sum, g, bytes_part (nodes_in rows) file, r, n))

pub counted_times : (rows more : List Row) (bytes n : ℕ) (a m : Option Datetime) → IsCounted rows bytes
    → nodes_in more ≡ with_times (nodes_in rows) n a m → links_list more ≡ links_list rows → length more ≡ length rows → IsCounted more bytes
counted_times rows more bytes n a m i e s c = record {
  sum = i.sum ∙ sym (total_bytes-with_times (nodes_in rows) n a m) ∙ ap total_bytes (sym e);
  links = λ k. ap (λ ls. get_or ls k 0) s ∙ i.links k ∙ sym (links_of-with_times k (nodes_in rows) n a m) ∙ ap (λ ns. links_of ns k) (sym e);
  shape = rw e (sound-with_times (nodes_in rows) n a m i.shape);
  room = i.room;
  few = omega (arith, c, i.few);
}
