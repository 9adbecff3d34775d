-- What a refused change prints.
use Rattle.std.specs.Prelude.{ℕ, List, codes}
use Rattle.wasi_fs_types.specs.ErrorCode.{code_name}
use Rattle.wasi_fs_nodes.specs.declared.store_error.StoreError.{StoreError}
use Rattle.wasi_fs_nodes.specs.declared.store_error.StoreError.TheVariants.{Code, OutOfMemory}

abbrev pub store_error_text : StoreError → List ℕ
store_error_text (Code code) = code_name code
store_error_text OutOfMemory = codes "out of memory"
