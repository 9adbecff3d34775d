pub mod Rule
pub mod Results
