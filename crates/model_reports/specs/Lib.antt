pub mod Files
pub mod Results
pub mod Said
